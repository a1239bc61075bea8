use Rattle.std.proofs.Common.{◌≡◌, ◌+◌, ◌≤◌, length}
use Rattle.listing.specs.Laid.{first_lines, laid, text_of}
use Rattle.listing.proofs.writing.write_lines.Given as goal

abbrev pub invariant-loop-row : goal.invariant-loop-row
invariant-loop-row g l =
    let ls = l.lines.rows in
    let done = text_of (first_lines (g.M.Machine.rules l.lines.machine) ls (length l.yielded)) in
    (length l.yielded ≤ length ls) × (l.at ≡ l.start + length done) × (l.place ≡ laid l.start done l.initial.place)
