-- Section one of a system file: process count, variable count, V, then each process's state count.
use Rattle.std.specs.Prelude.{ℕ, ◌+◌, Bool, not, ◌&&◌, List, length, drop, Option, ◌==◌, nat_le, position, slice_index}
use Rattle.std.specs.Option.{option_map}
use Rattle.files.specs.Pieces.{every}
use Rattle.files.specs.Sections.{must}

abbrev pub one_to : ℕ → ℕ → Bool
one_to most n = nat_le 1 n && nat_le n most

-- the place of the first state count that is not 1 to 16, where the first one stands at `place`
abbrev pub counts_fault : ℕ → List ℕ → Option ℕ
counts_fault place states = option_map (λ i. place + i) (position (λ n. not (one_to 16 n)) states)

-- the place of the first fault of section one, which stands at 12
abbrev pub sizes_fault : List ℕ → Option ℕ
sizes_fault one =
    must (one_to 4 (slice_index one 0)) 12
    (must (one_to 4 (slice_index one 1)) 13
    (must (one_to 4 (slice_index one 2)) 14
    (must (length one == 3 + slice_index one 0) 12 (counts_fault 15 (drop 3 one)))))

-- whether state counts, variables and values are those of a right file
abbrev pub right_sizes : List ℕ → ℕ → ℕ → Bool
right_sizes states variables values =
    one_to 4 (length states) && (one_to 4 variables && (one_to 4 values && every (one_to 16) states))
