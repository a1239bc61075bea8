-- A list file, part by part.
use Rattle.std.specs.Prelude.{ℕ, ◌+◌, ◌*◌, List, ◌++◌, map, length, take, drop}
use Rattle.std.specs.List.{flat_map}
use Rattle.files.specs.Writer.{two_bytes, pairs_of}
use Rattle.machines.specs.Kind.{Rules}

-- a place with bytes x laid over it from byte `at` on
unfoldable pub laid : ℕ → List ℕ → List ℕ → List ℕ
laid at x place = take at place ++ (x ++ drop (at + length x) place)

-- the lines of the first i rows
abbrev pub first_lines : Rules → List (List ℕ) → ℕ → List (List ℕ)
first_lines u ls i = take i (map u.line_of ls)

-- the count and the pairs of lines
abbrev pub directory_of : List (List ℕ) → List ℕ
directory_of ls = two_bytes (length ls) ++ pairs_of (2 + 4 * length ls) ls

-- lines one after another
abbrev pub text_of : List (List ℕ) → List ℕ
text_of ls = flat_map (λ l. l) ls
