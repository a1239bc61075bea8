use Rattle.files.specs.Program.{program}
use Rattle.bench.proofs.Starting.{in_range, start_is, zeros_front}
use Rattle.bench.proofs.bench.Bench.new.Goals as goal

pub returns-clause-start : goal.returns-clause-start
returns-clause-start g c = λ ms.
    let s = program c.args.system in
    let z = in_range s.states s.variables s.values c.args.system.sized in
    start_is g.R.Record.Message.kind g.R.Rules.book s _ (zeros_front _ z.0) (zeros_front _ z.1) (zeros_front _ z.0)
