use Rattle.std.proofs.Common.{◌≡◌, ◌+◌, ◌*◌, ◌≤◌, length}
use Rattle.files.specs.Writer.{pairs_of}
use Rattle.listing.specs.Laid.{first_lines, laid, text_of}
use Rattle.listing.proofs.writing.write_directory.Given as goal

abbrev pub invariant-loop-row : goal.invariant-loop-row
invariant-loop-row g l =
    let ls = l.lines.rows in
    let done = first_lines (g.M.Machine.rules l.lines.machine) ls (length l.yielded) in
    (length l.yielded ≤ length ls)
    × (l.at ≡ 2 + 4 * length l.yielded)
    × (l.offset ≡ 2 + 4 * length ls + length (text_of done))
    × (l.offset ≤ 2 + 4 * length ls + 59 * length l.yielded)
    × (l.place ≡ laid 2 (pairs_of (2 + 4 * length ls) done) l.initial.place)
