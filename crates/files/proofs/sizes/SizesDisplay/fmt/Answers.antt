use Rattle.std.proofs.Common.{rules, append_assoc}
use Rattle.files.proofs.sizes.SizesDisplay.fmt.Goals as goal

pub returns-clause-writes : goal.returns-clause-writes
returns-clause-writes g c = search (rules, append_assoc)
