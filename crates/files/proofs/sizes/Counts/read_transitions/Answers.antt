use Rattle.std.proofs.Common.{rules}
use Rattle.files.specs.Transition.{transition_of}
use Rattle.files.proofs.sizes.Counts.read_transitions.Goals as goal

pub returns : goal.returns
returns c = c.read_pieces.ensures (transition_of c.args.self.now.states.now c.args.self.now.variables c.args.self.now.values) (λ bs answer k. search rules)
