-- Numbers in a file.
use Rattle.std.specs.Prelude.{ℕ, ◌+◌, ◌*◌, List, slice_index}

-- the number that the two bytes at a place give, high byte first
abbrev pub two : List ℕ → ℕ → ℕ
two bs i = 256 * slice_index bs i + slice_index bs (i + 1)
