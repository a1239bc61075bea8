-- Lines of the load-buffer machine: the states, the memory values, then of each queue its count and so many messages.
use Rattle.std.specs.Prelude.{ℕ, zero, suc, List, [], ◌++◌, length, take, drop, slice_index}
use Rattle.files.specs.Program.{Program}
use Rattle.fronts.specs.Fronts.{front_len}

-- the bytes in use of n queues, of ten bytes each
abbrev pub in_use : ℕ → List ℕ → List ℕ
in_use zero qs = []
in_use (suc n) qs = take (suc (slice_index qs 0)) (take 10 qs) ++ in_use n (drop 10 qs)

abbrev pub line_of : Program → List ℕ → List ℕ
line_of s row = take (front_len s) row ++ in_use (length s.states) (drop (front_len s) row)
