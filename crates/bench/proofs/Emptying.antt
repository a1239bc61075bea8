-- A queue whose oldest message is taken as often as it has messages is empty.
use Rattle.std.proofs.Common.{◌≡◌, ℕ, zero, suc, ◌+◌, ◌-◌, ◌*◌, ◌<◌, ◌≤◌, min, Bool, true, false, cond, ltb, [], ◌++◌, length, get_or, take, drop, Some, None, Ok, Err, Option, Result, sym, refl, ap, ◌∙◌, arith}
use Rattle.std.proofs.lemmas.List.{get_or-set_same, length-set, length-map, length-append, length-take, length-drop, nil_from_length}
use Rattle.files.specs.Program.{Program, Ranges, sizes_of}
use Rattle.machines.specs.Step.{number_of}
use Rattle.queue.specs.Fifo.{Kind}
use Rattle.rules.specs.declared.act.Deed.{Deed}
use Rattle.rules.specs.declared.effect.Change.TheVariants.{Leave}
use Rattle.rules.specs.declared.effect.Effect.{Effect}
use Rattle.rules.specs.Rulebook.{Rulebook, room, Exact}
use Rattle.bench.specs.declared.fault.BenchFault.{BenchFault}
use Rattle.bench.specs.declared.fault.BenchFault.TheVariants.{Impossible}
use Rattle.bench.specs.declared.perform.Hindrance.TheVariants.{Full as NoPlace}
use Rattle.bench.specs.Deeds.{deed_of}
use Rattle.bench.specs.Perform.{has_place, length_after, seen, by_effect}
use Rattle.bench.specs.Play.{Outcome, played, unready, unless, by_deed, by_performed, enacted, done, refused, onward, repeated, drained, Came}
use Rattle.bench.specs.Table.{Table, part, queue_of, needed}
use Rattle.bench.proofs.Deeding.{moves_deed}
use Rattle.bench.proofs.Playing.{part_within}
use Rattle.bench.proofs.Stepped.{queue_length, ready_enough}
use Rattle.std.proofs.lemmas.Bool.{ltb-true}
use Rattle.bench.proofs.Stepping.{length_after_lem}

not_ok : {X : Type 0} (e : BenchFault) → ◌≡◌ {A = Result (Unit {0}) BenchFault} (Err e) (Ok tt) → X
not_ok e h = let z : ◌≡◌ {A = ℕ} 0 1 = cc in absurd (omega arith)

-- a table of the program's sizes, with records enough
pub record Fit {M : Type 0} (u : Rulebook M) (s : Program) (t : Table M) : Type 0 where
  pub states : length t.states ≡ length s.states
  pub lengths : length t.lengths ≡ length s.states
  pub enough : needed u s ≤ length t.records

module _ {M : Type 0} (k : Kind M) (u : Rulebook M) (x : Exact k u) (s : Program) (ranges : Ranges (sizes_of s)) (p : ℕ) (h : p < length s.states) where
  abbrev number : ℕ
  number = number_of p u.emptying

  -- the deed of the emptying move
  abbrev deed : Table M → Deed
  deed t = record { process = p; act = x.empties.0; state = get_or t.states p 0 }

  -- the table once the oldest message has gone
  abbrev gone : Table M → Effect M → Table M
  gone t e = enacted u t (deed t) (seen k.zero e (get_or t.lengths p 0) t.memory (part u p t.records))

  abbrev Went : Table M → Outcome M → Type 0
  Went t o = (e : Effect M) × ((e.change ≡ Leave) × (o ≡ done (gone t e)))

  by_effect_lem : (t : Table M) (o : Option (Effect M)) → u.effect x.empties.0 t.memory (queue_of k u t p) ≡ o → (by_performed u t number (deed t) (by_effect k.zero o (get_or t.lengths p 0) t.memory (part u p t.records))).answer ≡ Ok tt → Went t (by_performed u t number (deed t) (by_effect k.zero o (get_or t.lengths p 0) t.memory (part u p t.records)))
  by_effect_lem t None f a = not_ok (Impossible number) a
  by_effect_lem t (Some e) f a =
      let c = x.empties.1.1 t.memory (queue_of k u t p) e f in
      let v = seen k.zero e (get_or t.lengths p 0) t.memory (part u p t.records) in
      (e, (c, ap (λ i. by_performed u t number (deed t) (cond (has_place i (get_or t.lengths p 0) (part u p t.records)) (Ok v) (Err NoPlace))) c))

  by_ready : (t : Table M) (f : Option BenchFault) (o : Outcome M) → (unless f t o).answer ≡ Ok tt → unless f t o ≡ o
  by_ready t (Some e) o a = not_ok e a
  by_ready t None o a = refl

  went : (t : Table M) → Fit u s t → (played k u s t number).answer ≡ Ok tt → Went t (played k u s t number)
  went t z a =
      let four : length t.states ≤ 4 = omega (arith, z.states, ranges.processes.1) in
      let l : p < length t.states = omega (arith, z.states) in
      let d = moves_deed s t.states p (get_or t.states p 0) u.emptying x.empties.0 four ranges.variables.1 ranges.transitions l (x.empties.1.0 s p (get_or t.states p 0)) in
      let r = by_ready t (unready k u s t) (by_deed k u t number (deed_of s t.states number)) a in
      let o = r ∙ ap (by_deed k u t number) d in
      let y = by_effect_lem t (u.effect x.empties.0 t.memory (queue_of k u t p)) refl (sym (ap (λ w. w.answer) o) ∙ a) in
      (y.0, (y.1.0, o ∙ y.1.1))

  -- what is left has the same sizes, and one message fewer
  gone_fits : (t : Table M) → Fit u s t → (e : Effect M) → e.change ≡ Leave → Fit u s (gone t e) × (length (queue_of k u (gone t e) p) ≡ length (queue_of k u t p) - 1)
  gone_fits t z e c =
      let xs = part u p t.records in
      let n = get_or t.lengths p 0 in
      let v = seen k.zero e n t.memory xs in
      let w = part_within (room u) p (length s.states) (length t.records) h z.enough in
      let a = length-take (room u * p) t.records in
      let b = length-drop (room u * p + room u) t.records in
      let d = length-drop (room u * p) t.records in
      let g = length-take (room u) (drop (room u * p) t.records) in
      let i = length_after_lem k.zero e.change n xs in
      let j = length-append (take (room u * p) t.records) (v.places ++ drop (room u * p + room u) t.records) in
      let m = length-append v.places (drop (room u * p + room u) t.records) in
      let same : length (gone t e).records ≡ length t.records = omega arith in
      let fit : Fit u s (gone t e) = record { states = length-set t.states p (get_or t.states p 0) ∙ z.states; lengths = length-set t.lengths p v.count ∙ z.lengths; enough = omega (arith, z.enough) } in
      let q = queue_length k u s t z.enough p h in
      let q' = queue_length k u s (gone t e) fit.enough p h in
      let o = get_or-set_same t.lengths p v.count 0 (omega (arith, z.lengths)) in
      let y : v.count ≡ length (take n xs) - 1 = ap (λ f. length_after f n xs) c in
      let r = length-map (take n xs) k.means in
      let f : min v.count (room u) ≡ length (queue_of k u t p) - 1 = omega arith in
      (fit, q' ∙ ap (λ l. min l (room u)) o ∙ f)

  -- the queue is empty, if the moves are made
  abbrev Empties : ℕ → Table M → Type 0
  Empties n t = Fit u s t → length (queue_of k u t p) ≤ n → (repeated k u s number n t).answer ≡ Ok tt → length (queue_of k u (repeated k u s number n t).after p) ≡ 0

  go_on : (n : ℕ) (t : Table M) (r : Result (Unit {0}) BenchFault) → (onward r t (repeated k u s number n)).answer ≡ Ok tt → onward r t (repeated k u s number n) ≡ repeated k u s number n t
  go_on n t (Ok y) a = refl
  go_on n t (Err e) a = not_ok e a

  made : (n : ℕ) (t : Table M) (r : Result (Unit {0}) BenchFault) → (onward r t (repeated k u s number n)).answer ≡ Ok tt → r ≡ Ok tt
  made n t (Ok y) a = refl
  made n t (Err e) a = not_ok e a

  one_more : (n : ℕ) → ((t : Table M) → Empties n t) → (t : Table M) → Empties (suc n) t
  unfolding repeated
  one_more n ih t z l a =
      let o = played k u s t number in
      let g = go_on n o.after o.answer a in
      let y = went t z (made n o.after o.answer a) in
      let e = y.0 in
      let w = gone_fits t z e y.1.0 in
      let f = ap (λ i. i.after) y.1.1 in
      let b = ap (repeated k u s number n) f in
      let c = g ∙ b in
      let m : length (queue_of k u (gone t e) p) ≤ n = omega (arith, w.1) in
      ap (λ i. length (queue_of k u i.after p)) c ∙ ih (gone t e) w.0 m (sym (ap (λ i. i.answer) c) ∙ a)

  pub repeated_empties : (n : ℕ) (t : Table M) → Empties n t
  unfolding repeated
  repeated_empties zero t z l a = omega arith
  repeated_empties (suc n) t z l a = one_more n (repeated_empties n) t z l a

-- a drain that was not refused made the moves
drained_is : {M : Type 0} (k : Kind M) (u : Rulebook M) (s : Program) (t : Table M) (p : ℕ) (f : Option BenchFault) → unready k u s t ≡ f → (b : Bool) → ltb p (length s.states) ≡ b → (o : Outcome M) → (unless f t (cond b o (refused (Impossible (88 + p)) t))).answer ≡ Ok tt → (p < length s.states) × (needed u s ≤ length t.records) × (unless f t (cond b o (refused (Impossible (88 + p)) t)) ≡ o)
drained_is k u s t p (Some e) g b l o a = not_ok e a
drained_is k u s t p None g true l o a = (ltb-true p (length s.states) l, ready_enough k u s t (sym g), refl)
drained_is k u s t p None g false l o a = not_ok (Impossible (88 + p)) a

-- nothing is queued then
pub drained_empty : {M : Type 0} (k : Kind M) (u : Rulebook M) (x : Exact k u) (s : Program) (t : Table M) → length t.states ≡ length s.states → length t.lengths ≡ length s.states → Ranges (sizes_of s) → (p : ℕ) (r : Result (Unit {0}) BenchFault) (t' : Table M) → Came (drained k u s t p) r t' → r ≡ Ok tt → queue_of k u t' p ≡ []
drained_empty k u x s t a b ranges p r t' h e =
    let o = repeated k u s (number_of p u.emptying) (length (queue_of k u t p)) t in
    let d = drained_is k u s t p (unready k u s t) refl (ltb p (length s.states)) refl o (sym h.0 ∙ e) in
    let z : Fit u s t = record { states = a; lengths = b; enough = d.1 } in
    let n = repeated_empties k u x s ranges p d.0 (length (queue_of k u t p)) t z (omega arith) (sym (ap (λ w. w.answer) d.2) ∙ sym h.0 ∙ e) in
    nil_from_length _ (ap (λ w. length (queue_of k u w p)) (h.1 ∙ ap (λ w. w.after) d.2) ∙ n)
