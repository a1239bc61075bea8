use Rattle.worked.proofs.Worked.{twelve_safe, without_eight, with_start}
use Rattle.worked.proofs.examples.verdicts_hold.Goals as goal

pub returns : goal.returns
returns c = record { safe = twelve_safe; leak = without_eight; start = with_start }
