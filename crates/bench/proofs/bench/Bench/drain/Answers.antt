use Rattle.files.specs.Program.{program}
use Rattle.bench.specs.Table.{table_of}
use Rattle.bench.proofs.Emptying.{drained_empty}
use Rattle.bench.proofs.bench.Bench.drain.Goals as goal

pub returns-clause-empty : goal.returns-clause-empty
returns-clause-empty g c = λ e.
    let b = c.args.self.now in
    let z = c.take_all.ensures.sized in
    drained_empty g.R.Record.Message.kind g.R.Rules.book g.met.R.Rules.exact (program b.system) (table_of b c.args.messages.now) z.states z.lengths z.ranges c.args.process _ _ c.take_all.ensures.came e
