-- Rows as lines, and the list file of rows.
use Rattle.std.specs.Prelude.{◌≡◌, ℕ, List, map}
use Rattle.files.specs.Writer.{list_file}
use Rattle.machines.specs.Kind.{Rules}

-- r is the row of line l: the one storable row whose line it is
abbrev pub RowOf : Rules → List ℕ → List ℕ → Type 0
RowOf u l r = u.Storable r × (l ≡ u.line_of r) × ((s : List ℕ) → u.Storable s → l ≡ u.line_of s → s ≡ r)

-- the list file of the lines of rows
abbrev pub file_of : Rules → List (List ℕ) → List ℕ
file_of u ls = list_file (map u.line_of ls)
