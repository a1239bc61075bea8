use Rattle.std.proofs.Common.{◌≤◌}
use Rattle.console.proofs.cases.run_cases.Given as goal

abbrev pub invariant-loop-line : goal.invariant-loop-line
invariant-loop-line g l =
    (goal.iterator-loop-line g).can_next l.line-iterator ×
    (goal.iterator-loop-line g).is_finite l.line-iterator ×
    (l.tally.1.0 ≤ l.tally.0)
