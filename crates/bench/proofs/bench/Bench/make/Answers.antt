use Rattle.std.proofs.Common.{◌≡◌, ◌+◌, ◌-◌, ◌<◌, ◌≤◌, ◌++◌, length, get_or, take, drop, set, Some, Err, sym, refl, ap, ◌∙◌, subst, arith, rules}
use borrow.Rule.Slice.PartMut.{put_mid}
use Rattle.std.specs.Result.{result_ok}
use Rattle.std.proofs.lemmas.List.{get_or-take}
use Rattle.std.proofs.lemmas.Option.{MatchOption-at_some}
use Rattle.std.proofs.lemmas.Result.{IfOk-at_ok, err_from_is_err_and}
use Rattle.files.specs.Program.{program}
use Rattle.rules.specs.Rulebook.{room}
use Rattle.bench.specs.Perform.{performed, Did, fault_of}
use Rattle.bench.specs.Play.{enacted}
use Rattle.bench.specs.Table.{table_of, on_part}
use Rattle.bench.proofs.Playing.{kept_ok, changed_err, played_ok, played_not, take_set_any, part_is, on_part_is, on_part_same, get_or_set_within, front_written, after_is, part_short}
use Rattle.bench.proofs.bench.Bench.make.Goals as goal

pub invariant_of-self-2 : goal.invariant_of-self-2
invariant_of-self-2 g c =
    let b = c.args.self.now in
    let d = c.in_ok-deed.deed in
    let a = c.places_at-at.result in
    let ok = kept_ok c.perform.result c.map_err.result _ c.in_ok-length.length c.map_err.ensures.cases c.in_ok-length.was in
    let short = c.perform.ensures.short (b.short d.process) (part_short g.R.Rules.book (a + c.room.result - a) (drop a c.args.messages.now) (omega arith)) in
    let y = IfOk-at_ok (λ n. n ≤ 8) ok short in
    record { short = get_or_set_within b.lengths d.process c.in_ok-length.length 8 y b.short }

pub returns-clause-came : goal.returns-clause-came
returns-clause-came g c =
    let b = c.args.self.now in
    let ms = c.args.messages.now in
    let s = program b.system in
    let k = g.R.Record.Message.kind in
    let u = g.R.Rules.book in
    let t = table_of b ms in
    let d = c.in_ok-deed.deed in
    let is : c.deed.result ≡ Some d = c.ok_or.ensures.ok_part ∙ ap result_ok c.in_ok-deed.was in
    let few = MatchOption-at_some _ (λ e. e.process < length s.states) d is c.deed.ensures.process in
    let w = c.from-variables.result in
    let v : w - 0 ≡ s.variables = omega (arith, ap (λ z. z.variables) c.sizes.ensures.value) in
    let a = c.places_at-at.result in
    let h = c.places_at-at.ensures.value in
    let m = take (w - 0) b.memory in
    let m' = c.perform.new.memory in
    let xs = take (a + c.room.result - a) (drop a ms) in
    let xs' = c.perform.new.places in
    let n = c.in_ok-length.length in
    let count = get_or b.lengths d.process 0 in
    let e : a + c.room.result ≡ a + room u = ap (λ i. a + i) c.room.ensures in
    let ok = kept_ok c.perform.result c.map_err.result _ n c.map_err.ensures.cases c.in_ok-length.was in
    let did = subst (λ r. Did (performed k u d.act count m xs) m xs r m' xs') ok c.perform.ensures.did in
    let p = played_ok k u s t c.args.number d count m xs c.in_ok-ready.ensures.value (sym is ∙ c.deed.ensures.value) (sym (get_or-take (length s.states) b.lengths d.process 0 few)) (ap (λ i. take i b.memory) v) (part_is u d.process a (a + c.room.result) ms h e) n m' xs' did in
    (sym (ap (λ o. o.answer) p), after_is (record { states = take (length s.states) (set b.states d.process d.state); memory = take s.variables (m' ++ drop (w - 0) b.memory); lengths = take (length s.states) (set b.lengths d.process n); records = put_mid a (a + c.room.result - a) ms xs' }) (enacted u t d (record { count = n; memory = m'; places = xs' })) (take_set_any (length s.states) b.states d.process d.state) (front_written (w - 0) s.variables b.memory m' v (omega arith)) (take_set_any (length s.states) b.lengths d.process n) (on_part_is u d.process a (a + c.room.result) ms xs' h e) ∙ sym (ap (λ o. o.after) p))

pub returns-in_err-length-clause-came : goal.returns-in_err-length-clause-came
returns-in_err-length-clause-came g c =
    let b = c.args.self.now in
    let ms = c.args.messages.now in
    let s = program b.system in
    let k = g.R.Record.Message.kind in
    let u = g.R.Rules.book in
    let t = table_of b ms in
    let d = c.in_ok-deed.deed in
    let is : c.deed.result ≡ Some d = c.ok_or.ensures.ok_part ∙ ap result_ok c.in_ok-deed.was in
    let few = MatchOption-at_some _ (λ e. e.process < length s.states) d is c.deed.ensures.process in
    let w = c.from-variables.result in
    let v : w - 0 ≡ s.variables = omega (arith, ap (λ z. z.variables) c.sizes.ensures.value) in
    let a = c.places_at-at.result in
    let h = c.places_at-at.ensures.value in
    let m = take (w - 0) b.memory in
    let m' = c.perform.new.memory in
    let xs = take (a + c.room.result - a) (drop a ms) in
    let xs' = c.perform.new.places in
    let count = get_or b.lengths d.process 0 in
    let e : a + c.room.result ≡ a + room u = ap (λ i. a + i) c.room.ensures in
    let r = changed_err (fault_of d.process c.args.number) c.perform.result c.map_err.result _ c.in_err-length.field-0.0 c.map_err.ensures.cases (λ o f z. search rules) c.in_err-length.was in
    let did = subst (λ o. Did (performed k u d.act count m xs) m xs o m' xs') r.1 c.perform.ensures.did in
    let p = played_not k u s t c.args.number d count m xs c.in_ok-ready.ensures.value (sym is ∙ c.deed.ensures.value) (sym (get_or-take (length s.states) b.lengths d.process 0 few)) (ap (λ i. take i b.memory) v) (part_is u d.process a (a + c.room.result) ms h e) r.0 m' xs' did in
    let q = err_from_is_err_and c.from_residual-in_err-length.result c.from_residual-in_err-length.ensures.1 in
    rw (q.1, q.2) (
      ap Err r.2 ∙ sym (ap (λ o. o.answer) p.0),
      after_is (record { states = t.states; memory = take s.variables (m' ++ drop (w - 0) b.memory); lengths = t.lengths; records = put_mid a (a + c.room.result - a) ms xs' }) t refl (front_written (w - 0) s.variables b.memory m' v (omega arith) ∙ p.1) refl (on_part_is u d.process a (a + c.room.result) ms xs' h e ∙ ap (λ ys. on_part u d.process (λ _. ys) ms) p.2 ∙ on_part_same u d.process ms) ∙ sym (ap (λ o. o.after) p.0),
    )
