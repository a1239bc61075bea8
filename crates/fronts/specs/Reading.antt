-- How one byte of a line is read.
use Rattle.std.specs.Prelude.{ℕ, Bool, cond, List, length, Ok, Err, Result, nat_lt, slice_index}
use Rattle.files.specs.declared.list_fault.LineFault.{LineFault}
use Rattle.files.specs.declared.list_fault.LineFault.TheVariants.{Byte, Early}

abbrev pub below : ℕ → ℕ → Bool
below limit b = nat_lt b limit

-- the byte at a place, if it passes a test
abbrev pub taken : (ℕ → Bool) → List ℕ → ℕ → Result ℕ LineFault
taken test l at = cond (nat_lt at (length l)) (cond (test (slice_index l at)) (Ok (slice_index l at)) (Err (Byte at))) (Err (Early (length l)))
