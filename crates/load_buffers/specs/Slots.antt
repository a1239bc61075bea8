-- What is read by slots: bytes that fill them, how to go on, and the first fault.
use Rattle.std.specs.Prelude.{◌≡◌, ℕ, zero, suc, ◌+◌, ◌<◌, Bool, true, false, cond, List, [], ◌∷◌, ◌++◌, map, length, take, replicate, Some, None, Option, refl}
use Rattle.std.proofs.Common.{arith}
use Rattle.std.proofs.ByRecursion.{All-append}
use Rattle.std.proofs.lemmas.Bool.{both_ways}
use Rattle.std.specs.List.{AllByRecursion}
use Rattle.files.specs.declared.list_fault.LineFault.{LineFault}
use Rattle.files.specs.declared.list_fault.LineFault.TheVariants.{Byte, Early}
use Rattle.machines.specs.Kind.{IsLine, LineAnswer, Rules}
use Rattle.load_buffers.specs.Reading.{Slot, after, is_message, one, passes, queue, walk}

-- the bytes fill the slots
abbrev pub Reads : List Slot → List ℕ → Type 0
Reads [] [] = Unit {0}
Reads [] (b ∷ l) = ⊥
Reads (s ∷ ss) [] = ⊥
Reads (s ∷ ss) (b ∷ l) = (passes s b ≡ true) × Reads (after s b ss) l

-- a zero may fill it
abbrev pub Opens : Slot → Type 0
Opens (one test) = test 0 ≡ true
Opens (queue z) = is_message z 0 ≡ true

pub opens_tests : (ts : List (ℕ → Bool)) → AllByRecursion (λ t. t 0 ≡ true) ts → AllByRecursion Opens (map one ts)
opens_tests [] a = tt
opens_tests (t ∷ ts) a = (a.0, opens_tests ts a.1)

pub all_same : {X : Type 0} (P : X → Type 0) (n : ℕ) (x : X) → P x → AllByRecursion P (replicate n x)
all_same P zero x h = tt
all_same P (suc n) x h = (h, all_same P n x h)

opens_after : (s : Slot) (b : ℕ) (ss : List Slot) → Opens s → AllByRecursion Opens ss → AllByRecursion Opens (after s b ss)
opens_after (one test) b ss h a = a
opens_after (queue z) b ss h a =
    All-append Opens (map one (replicate b (is_message z))) ss (opens_tests (replicate b (is_message z)) (all_same (λ t. t 0 ≡ true) b (is_message z) h)) a

-- zeros fill what is left
zeros_fill : (ss : List Slot) → AllByRecursion Opens ss → Reads ss (replicate (length ss) 0)
zeros_fill [] a = tt
zeros_fill (one test ∷ ss) a = (a.0, zeros_fill ss a.1)
zeros_fill (queue z ∷ ss) a = (refl, zeros_fill ss a.1)

-- what a fault says of bytes at a place
abbrev SlotAnswer : List Slot → List ℕ → ℕ → Option LineFault → Type 0
SlotAnswer us l i None = Reads us l
SlotAnswer us l i (Some (Byte j)) =
    (k : ℕ) × ((j ≡ i + k) × (k < length l) × ((rest : List ℕ) × Reads us (take k l ++ rest)) × ((rest : List ℕ) → Reads us (take (suc k) l ++ rest) → ⊥))
SlotAnswer us l i (Some (Early n)) = (n ≡ i + length l) × ((rest : List ℕ) × Reads us (l ++ rest)) × (Reads us l → ⊥)

answer_more : (s : Slot) (ss : List Slot) (b : ℕ) (l : List ℕ) (i : ℕ) (t : Bool) (o : Option LineFault) → passes s b ≡ t → AllByRecursion Opens (s ∷ ss) → SlotAnswer (after s b ss) l (i + 1) o → SlotAnswer (s ∷ ss) (b ∷ l) i (cond t o (Some (Byte i)))
answer_more s ss b l i true None e a h = (e, h)
answer_more s ss b l i true (Some (Byte j)) e a h =
    let k = h.0 in
    let f = h.1 in
    (suc k, (omega arith, omega arith, (f.2.0, (e, f.2.1)), λ rest r. f.3 rest r.1))
answer_more s ss b l i true (Some (Early n)) e a h = (omega arith, (h.1.0, (e, h.1.1)), λ r. h.2 r.1)
answer_more s ss b l i false o e a h =
    (0, (omega arith, omega arith, (replicate (length (s ∷ ss)) 0, zeros_fill (s ∷ ss) a), λ rest r. both_ways (passes s b) e r.0))

walk_answer : (us : List Slot) (l : List ℕ) (i : ℕ) → AllByRecursion Opens us → SlotAnswer us l i (walk i us l)
unfolding walk
walk_answer [] [] i a = tt
walk_answer [] (b ∷ l) i a = (0, (omega arith, omega arith, ([], tt), λ rest r. r))
walk_answer (s ∷ ss) [] i a = (omega arith, (replicate (length (s ∷ ss)) 0, zeros_fill (s ∷ ss) a), λ r. r)
walk_answer (s ∷ ss) (b ∷ l) i a =
    answer_more s ss b l i (passes s b) (walk (i + 1) (after s b ss) l) refl a (walk_answer (after s b ss) l (i + 1) (opens_after s b ss a.0 a.1))

-- where the lines are what fills the slots, the walk's fault is the line's
module _ (u : Rules) (us : List Slot) (l : List ℕ) (to : (x : List ℕ) → IsLine u x → Reads us x) (from : (x : List ℕ) → Reads us x → IsLine u x) where
  as_line : (o : Option LineFault) → SlotAnswer us l 0 o → LineAnswer u l o
  as_line None h = from l h
  as_line (Some (Byte j)) h =
      let k = h.0 in
      let f = h.1 in
      let e : j ≡ k = omega (arith, f.0) in
      let n : j + 1 ≡ suc k = omega arith in
      rw (n, e) (f.1, (f.2.0, from (take k l ++ f.2.0) f.2.1), λ g. f.3 g.0 (to (take (suc k) l ++ g.0) g.1))
  as_line (Some (Early n)) h = (omega (arith, h.0), (h.1.0, from (l ++ h.1.0) h.1.1), λ g. h.2 (to l g))

  pub line_answer : AllByRecursion Opens us → LineAnswer u l (walk 0 us l)
  line_answer a = as_line (walk 0 us l) (walk_answer us l 0 a)
