-- A list file as it is written.
use Rattle.std.specs.Prelude.{ℕ, ◌+◌, ◌*◌, ◌/◌, ◌%◌, List, [], ◌∷◌, ◌++◌, length}
use Rattle.std.specs.List.{flat_map}

-- a number as two bytes, high byte first
abbrev pub two_bytes : ℕ → List ℕ
two_bytes n = n / 256 ∷ n % 256 ∷ []

-- the pairs of lines of which the first lies at an offset
unfoldable pub pairs_of : ℕ → List (List ℕ) → List ℕ
pairs_of offset [] = []
pairs_of offset (l ∷ ls) = two_bytes offset ++ (two_bytes (length l) ++ pairs_of (offset + length l) ls)

-- the count, the pairs, and the lines one after another
abbrev pub list_file : List (List ℕ) → List ℕ
list_file ls = two_bytes (length ls) ++ (pairs_of (2 + 4 * length ls) ls ++ flat_map (λ l. l) ls)
