-- A list file's directory, and the lines that it names.
use Rattle.std.specs.Prelude.{ℕ, zero, suc, ◌+◌, ◌*◌, cond, List, [], ◌∷◌, length, take, drop, Some, None, Option, ◌==◌, nat_lt}
use Rattle.files.specs.Bytes.{two}

-- the place of the first fault among n pairs from a place on, the first of which has to have the offset `due`
unfoldable pub walk : ℕ → ℕ → ℕ → List ℕ → Option ℕ
walk zero place due bs = cond (due == length bs) None (Some (length bs))
walk (suc n) place due bs = cond (two bs place == due) (walk n (place + 4) (due + two bs (place + 2)) bs) (Some place)

-- the place of a list file's first fault
abbrev pub dir_fault : List ℕ → Option ℕ
dir_fault bs =
    cond (nat_lt (length bs) 2) (Some 0) (cond (nat_lt 1024 (two bs 0)) (Some 0) (cond (nat_lt (length bs) (2 + 4 * two bs 0)) (Some 0) (walk (two bs 0) 2 (2 + 4 * two bs 0) bs)))

-- the bytes of line i, by its pair
abbrev pub line_of : List ℕ → ℕ → List ℕ
line_of bs i = take (two bs (2 + 4 * i + 2)) (drop (two bs (2 + 4 * i)) bs)

-- n lines from line i on
unfoldable pub lines_from : ℕ → ℕ → List ℕ → List (List ℕ)
lines_from zero i bs = []
lines_from (suc n) i bs = line_of bs i ∷ lines_from n (i + 1) bs

-- all lines of a file, in order
abbrev pub lines_of : List ℕ → List (List ℕ)
lines_of bs = lines_from (two bs 0) 0 bs
