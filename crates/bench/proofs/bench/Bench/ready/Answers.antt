use Rattle.std.proofs.Common.{◌≡◌, ℕ, ◌-◌, ◌*◌, ◌/◌, ◌%◌, ◌≤◌, not, ◌&&◌, ltb, List, length, get_or, take, Option, sym, ap, ◌∙◌, arith}
use Rattle.std.specs.Option.{option_map}
use Rattle.std.proofs.lemmas.Bool.{cond-false, cond_both, le-ltb}
use Rattle.std.proofs.lemmas.List.{get_or-take, length-take-le}
use Rattle.files.specs.Program.{Program, program}
use Rattle.queue.specs.Fifo.{Kind}
use Rattle.rules.specs.Rulebook.{Rulebook, room}
use Rattle.bench.specs.declared.fault.BenchFault.TheVariants.{Wrong}
use Rattle.bench.specs.Play.{fits, wrong_at, lowest, unready}
use Rattle.bench.specs.Table.{Table, table_of, needed}
use Rattle.bench.proofs.Lowest.{lowest_same}
use Rattle.bench.proofs.bench.Bench.ready.Goals as goal

-- the records that are needed are eight a queue
whole : {M : Type 0} (u : Rulebook M) (n : ℕ) → 8 * (room u * n / 8) ≡ room u * n
whole u n = cond_both u.buffered 8 0 (λ r. 8 * (r * n / 8) ≡ r * n) (λ e. omega arith) (λ e. omega arith)

-- a search among the records that are needed
found : {M : Type 0} (k : Kind M) (u : Rulebook M) (s : Program) (t : Table M) (m : ℕ) (lengths : List ℕ) (o : Option ℕ) → m ≡ needed u s → m ≤ length t.records → lengths ≡ t.lengths → o ≡ lowest (wrong_at k s lengths (take m t.records)) (8 * (length (take m t.records) / 8)) 0 → option_map Wrong o ≡ unready k u s t
found k u s t m lengths o e h w f =
    let part = take m t.records in
    let l = length-take-le m t.records h ∙ e in
    let all : 8 * (length part / 8) ≡ needed u s = ap (λ n. 8 * (n / 8)) l ∙ whole u (length s.states) in
    let same = lowest_same (wrong_at k s t.lengths part) (wrong_at k s t.lengths t.records) (needed u s) 0 (λ i a b. ap (λ r. ltb (i % 8) (get_or t.lengths (i / 8) 0) && not (fits s (k.means r))) (get_or-take m t.records i k.zero (omega arith))) in
    ap (option_map Wrong) (f ∙ ap (λ z. lowest (wrong_at k s z part) (8 * (length part / 8)) 0) w ∙ ap (λ n. lowest (wrong_at k s t.lengths part) n 0) all ∙ same)
    ∙ sym (cond-false _ _ _ (le-ltb (length t.records) (needed u s) (omega arith)))

pub returns-in-Some-clause-value : goal.returns-in-Some-clause-value
returns-in-Some-clause-value g c =
    let b = c.args.self.now in
    let s = program b.system in
    found g.R.Record.Message.kind g.R.Rules.book s (table_of b c.args.messages.now) (c.needed-needed.result - 0) c.look-look.result.lengths.now _ (omega (arith, c.needed-needed.ensures.value)) (omega arith) c.look-look.ensures.lengths (c.in-Some.ensures s c.sizes.ensures.value)

pub returns-in-None-clause-value : goal.returns-in-None-clause-value
returns-in-None-clause-value g c =
    let b = c.args.self.now in
    let s = program b.system in
    found g.R.Record.Message.kind g.R.Rules.book s (table_of b c.args.messages.now) (c.needed-needed.result - 0) c.look-look.result.lengths.now _ (omega (arith, c.needed-needed.ensures.value)) (omega arith) c.look-look.ensures.lengths (c.in-None.ensures s c.sizes.ensures.value)
