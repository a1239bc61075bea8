use Rattle.std.proofs.Common.{arith}
use Rattle.rows.proofs.Rows.{standing_length}
use Rattle.rows.proofs.lines.Lines.rows.Goals as goal

pub returns-clause-few : goal.returns-clause-few
returns-clause-few c = let v = c.args.self.now in omega (arith, standing_length v.width v.count v.bytes.now, v.few)
