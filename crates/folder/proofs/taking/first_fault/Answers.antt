use Rattle.std.proofs.Common.{ℕ, subst, rules}
use Rattle.std.specs.Iterator.Runs.{ItemsCountUp}
use Rattle.std.specs.declared.ops.Range.{Range}
use Rattle.std.proofs.iter.runs.Sources.{range_runs}
use Rattle.folder.specs.Taking.{FaultAt, FirstFault}
use Rattle.folder.proofs.Taken.{first_found}
use Rattle.folder.proofs.Searching.{found_first}
use Rattle.folder.proofs.taking.first_fault.Goals as goal

pub returns : goal.returns
returns g c =
    let u = g.M.Machine.rules c.args.machine.now in
    let bs = c.args.list.now.bytes.now in
    let n = c.count.result in
    let run = c.find_map.ensures.runs in
    let counts = subst (λ (q : Range ℕ). ItemsCountUp run.0 q.start q.end) run.1 (range_runs run.0 run.0.seen) in
    subst (λ i. FirstFault u bs i c.find_map.result) c.count.ensures
    (first_found u bs n c.find_map.result (found_first _ _ run.0 n (FaultAt u bs) counts (λ a r f h. search rules) (λ i o h told. search rules) c.find_map.result run.2))
