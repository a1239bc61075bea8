use Rattle.std.proofs.Common.{rules}
use Rattle.files.specs.Pattern.{pattern_of}
use Rattle.files.proofs.sizes.Counts.read_patterns.Goals as goal

pub returns : goal.returns
returns c = c.read_pieces.ensures (pattern_of c.args.self.now.states.now) (λ bs answer k. search rules)
