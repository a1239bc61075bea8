-- Section three of a system file: what one byte a process says.
use Rattle.std.specs.Prelude.{ℕ, Bool, true, cond, ◌&&◌, List, [], ◌∷◌, length, Some, None, Option, ◌==◌, nat_lt, slice_index, slice_index_or}
use Rattle.files.specs.Pieces.{checked}
use Rattle.files.specs.declared.pattern.Pattern.{Pattern}

-- the state that the bytes name for process k: 255 is any state, and past the bytes none is named
abbrev pub state_named : List ℕ → ℕ → Option ℕ
state_named bs k = cond (nat_lt k (length bs)) (cond (slice_index bs k == 255) None (Some (slice_index bs k))) None

-- whether process k has the state, by the state counts
abbrev pub fits_at : List ℕ → ℕ → Option ℕ → Bool
fits_at states k None = true
fits_at states k (Some s) = nat_lt k (length states) && nat_lt s (slice_index states k)

abbrev pub fits : List ℕ → Pattern → Bool
fits states p =
    fits_at states 0 (slice_index_or p.states 0 None) && (fits_at states 1 (slice_index_or p.states 1 None) && (fits_at states 2 (slice_index_or p.states 2 None) && fits_at states 3 (slice_index_or p.states 3 None)))

-- the pattern that is written
abbrev pub written_pattern : List ℕ → Pattern
written_pattern bs = record { states = state_named bs 0 ∷ state_named bs 1 ∷ state_named bs 2 ∷ state_named bs 3 ∷ [] }

abbrev pub pattern_of : List ℕ → List ℕ → Option Pattern
pattern_of states bs = checked (fits states) (Some (written_pattern bs))
