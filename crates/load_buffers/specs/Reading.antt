-- How a line is read, byte by byte: where it stops being a line, and its row.
use Rattle.std.specs.Prelude.{◌≡◌, ℕ, zero, suc, ◌+◌, ◌-◌, ◌≤◌, Bool, cond, ◌&&◌, List, [], ◌∷◌, ◌++◌, map, length, take, drop, replicate, Some, None, Option, nat_lt, slice_index}
use Rattle.files.specs.Program.{Program, sizes_of}
use Rattle.files.specs.declared.list_fault.LineFault.{LineFault}
use Rattle.files.specs.declared.list_fault.LineFault.TheVariants.{Byte, Early}
use Rattle.files.specs.declared.sizes.Sizes.{Sizes}
use Rattle.fronts.specs.Fronts.{front_len}
pub use Rattle.fronts.specs.Reading.{below, taken}
use Rattle.load_buffers.specs.Messages.{variable_of, value_of}

abbrev pub is_message : Sizes → ℕ → Bool
is_message z b = nat_lt b 32 && (nat_lt (variable_of b) z.variables && nat_lt (value_of b) z.values)

-- what may stand next: one byte that passes a test, or a queue's count with its messages behind it
pub data Slot : Type 0 where
  one : (ℕ → Bool) → Slot
  queue : Sizes → Slot

abbrev pub passes : Slot → ℕ → Bool
passes (one test) b = test b
passes (queue z) b = nat_lt b 9

-- what is left to read after a byte
abbrev pub after : Slot → ℕ → List Slot → List Slot
after (one test) b ss = ss
after (queue z) b ss = map one (replicate b (is_message z)) ++ ss

-- the fault of bytes that stand at a place, where so much is left to read
unfoldable pub walk : ℕ → List Slot → List ℕ → Option LineFault
walk i [] [] = None
walk i [] (b ∷ l) = Some (Byte i)
walk i (s ∷ ss) [] = Some (Early i)
walk i (s ∷ ss) (b ∷ l) = cond (passes s b) (walk (i + 1) (after s b ss) l) (Some (Byte i))

-- the tests of the states and the values
abbrev pub tests : Program → List (ℕ → Bool)
tests s = map below s.states ++ replicate s.variables (below s.values)

abbrev pub queues : Program → List Slot
queues s = replicate (length s.states) (queue (sizes_of s))

abbrev pub line_fault : Program → List ℕ → Option LineFault
line_fault s l = walk 0 (map one (tests s) ++ queues s) l

-- ten bytes, of which so many are given
abbrev pub padded : List ℕ → List ℕ
padded q = q ++ replicate (10 - length q) 0

-- the ten bytes of each of n queues
unfoldable pub spread : ℕ → List ℕ → List ℕ
spread zero l = []
spread (suc n) l = padded (take (suc (slice_index l 0)) l) ++ spread n (drop (suc (slice_index l 0)) l)

abbrev pub row_of : Program → List ℕ → List ℕ
row_of s l = take (front_len s) l ++ spread (length s.states) (drop (front_len s) l)

-- the bytes are a line, and this is its row
abbrev pub RowRead : Program → List ℕ → List ℕ → Type 0
RowRead s l row = (line_fault s l ≡ None) × (row ≡ row_of s l)

-- the states and the values are read, into the first bytes of a row
pub record FrontRead (s : Program) (l row : List ℕ) : Type 0 where
  pub within : front_len s ≤ length l
  pub front : take (front_len s) row ≡ take (front_len s) l
  pub on : (ss : List Slot) → walk 0 (map one (tests s) ++ ss) l ≡ walk (front_len s) ss (drop (front_len s) l)

-- the queue at a place is read, up to another place
pub record QueueRead (z : Sizes) (l : List ℕ) (at end : ℕ) (q : List ℕ) : Type 0 where
  pub within : end ≤ length l
  pub end_is : end ≡ at + suc (slice_index l at)
  pub ten : q ≡ padded (take (suc (slice_index l at)) (drop at l))
  pub on : (ss : List Slot) → walk at (queue z ∷ ss) (drop at l) ≡ walk end ss (drop end l)

-- the fault, whatever is left to read behind these
abbrev pub Faulty : ℕ → List Slot → List ℕ → LineFault → Type 0
Faulty at us l f = (ss : List Slot) → walk at (us ++ ss) (drop at l) ≡ Some f
