-- The three sections of a system file.
use Rattle.std.specs.Prelude.{ℕ, ◌+◌, ◌*◌, Bool, cond, ◌&&◌, List, length, take, drop, Some, None, Option, ◌==◌, nat_le}
use Rattle.files.specs.Bytes.{two}

-- the place, where a test fails, or else what comes after
abbrev pub must : Bool → ℕ → Option ℕ → Option ℕ
must test place after = cond test after (Some place)

-- the place of the first fault: too few bytes, a wrong pair, or another end than the file's
abbrev pub pairs_fault : List ℕ → Option ℕ
pairs_fault bs =
    must (nat_le 12 (length bs)) (length bs)
    (must (two bs 0 == 12 && nat_le 4 (two bs 2)) 0
    (must (two bs 4 == two bs 0 + two bs 2) 4
    (must (two bs 8 == two bs 4 + two bs 6) 8
    (must (two bs 8 + two bs 10 == length bs) (length bs) None))))

-- the bytes of section i, counted from 0
abbrev pub section : ℕ → List ℕ → List ℕ
section i bs = take (two bs (4 * i + 2)) (drop (two bs (4 * i)) bs)
