use Rattle.std.proofs.Common.{◌≡◌, ℕ, ◌*◌, ◌/◌, length, subst, rules}
use Rattle.std.specs.Iterator.Runs.{ItemsCountUp}
use Rattle.std.specs.declared.ops.Range.{Range}
use Rattle.std.proofs.iter.runs.Sources.{range_runs}
use Rattle.bench.specs.Play.{wrong_at, lowest}
use Rattle.bench.proofs.Lowest.{parts_found}
use Rattle.bench.proofs.Searching.{found_first}
use Rattle.bench.proofs.checks.first_wrong.Goals as goal

pub returns : goal.returns
returns g c = λ s z.
    let test = wrong_at g.M.Message.kind s c.args.lengths.now c.args.messages.now in
    let n = length c.args.messages.now / 8 in
    let run = c.find_map.ensures.runs in
    let counts = subst (λ (q : Range ℕ). ItemsCountUp run.0 q.start q.end) run.1 (range_runs run.0 run.0.seen) in
    parts_found test n c.find_map.result (found_first _ _ run.0 n (λ i o. o ≡ lowest test 8 (8 * i)) counts (λ a r f h. search rules) (λ i o h told. search rules) c.find_map.result run.2)
