-- The rows that lie packed in memory.
use Rattle.std.specs.Prelude.{ℕ, zero, suc, ◌*◌, List, [], ◌∷◌, take, drop, replicate}
use Rattle.rows.specs.declared.iter.Rows.{Rows}
use Rattle.rows.specs.declared.lines.Lines.{Lines}

-- the bytes of row i, at w bytes a row
abbrev pub row_at : ℕ → List ℕ → ℕ → List ℕ
row_at w memory i = take w (drop (i * w) memory)

-- the first n rows
unfoldable pub standing : ℕ → ℕ → List ℕ → List (List ℕ)
standing w zero memory = []
standing w (suc n) memory = take w memory ∷ standing w n (drop w memory)

abbrev pub rows_of : Lines → List (List ℕ)
rows_of v = standing v.width v.count v.bytes.now

-- a machine, and rows of it
pub record MachineRows (M : Type 0) : Type 0 where
  pub machine : M
  pub rows : List (List ℕ)

-- the rows that are still to come
abbrev pub rows_left : Rows → List (List ℕ)
rows_left r = rows_of r.left

abbrev pub zeros : ℕ → List ℕ
zeros n = replicate n 0
