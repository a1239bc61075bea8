use Rattle.files.specs.Program.{program}
use Rattle.bench.specs.Table.{table_of}
use Rattle.bench.proofs.Stepped.{played_right}
use Rattle.bench.proofs.bench.Bench.play.Goals as goal

pub returns-clause-stepped : goal.returns-clause-stepped
returns-clause-stepped g c =
    let b = c.args.self.now in
    let z = c.make.ensures.sized in
    played_right g.R.Record.Message.kind g.R.Rules.book g.met.R.Rules.exact (program b.system) (table_of b c.args.messages.now) z.states z.lengths z.ranges c.args.number _ _ c.make.ensures.came
