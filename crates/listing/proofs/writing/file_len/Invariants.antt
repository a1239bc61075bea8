use Rattle.std.proofs.Common.{◌≡◌, ◌+◌, ◌*◌, ◌≤◌, length}
use Rattle.listing.specs.Laid.{first_lines, text_of}
use Rattle.listing.proofs.writing.file_len.Given as goal

abbrev pub invariant-loop-row : goal.invariant-loop-row
invariant-loop-row g l =
    let ls = l.lines.rows in
    (length l.yielded ≤ length ls)
    × (l.size ≡ 2 + 4 * length ls + length (text_of (first_lines (g.M.Machine.rules l.lines.machine) ls (length l.yielded))))
    × (l.size ≤ 2 + 4 * length ls + 59 * length l.yielded)
