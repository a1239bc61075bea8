use Rattle.std.proofs.Common.{ℕ, ◌<◌, ◌≤◌, length, get_or}
use Rattle.files.specs.Program.{program}
use Rattle.fronts.specs.Fronts.{limit_of}
use Rattle.plain.proofs.lines.check_line.Given as goal

abbrev pub invariant-loop-i : goal.invariant-loop-i
invariant-loop-i l =
    (l.i ≤ length l.line) × ((k : ℕ) → k < l.i → get_or l.line k 0 < limit_of (program l.system) k)
