-- Bytes that pass tests, one each.
use Rattle.std.specs.Prelude.{◌≡◌, ℕ, zero, suc, ◌<◌, ◌≤◌, Bool, true, List, [], ◌∷◌, ◌++◌, map, length, take, drop, slice_index, slice_index_or, refl}
use Rattle.std.proofs.Common.{arith}
use Rattle.load_buffers.specs.Reading.{Slot, one}
use Rattle.load_buffers.specs.Slots.{Reads}

abbrev pub Passing : List (ℕ → Bool) → List ℕ → Type 0
Passing [] [] = Unit {0}
Passing [] (x ∷ xs) = ⊥
Passing (t ∷ ts) [] = ⊥
Passing (t ∷ ts) (x ∷ xs) = (t x ≡ true) × Passing ts xs

pub passing_at : (ts : List (ℕ → Bool)) (xs : List ℕ) (i : ℕ) (d : ℕ → Bool) → Passing ts xs → i < length ts → slice_index_or ts i d (slice_index xs i) ≡ true
passing_at [] xs i d p h = absurd (omega arith)
passing_at (t ∷ ts) [] i d p h = absurd p
passing_at (t ∷ ts) (x ∷ xs) zero d p h = p.0
passing_at (t ∷ ts) (x ∷ xs) (suc i) d p h = passing_at ts xs i d p.1 (omega arith)

pub passing_from : (ts : List (ℕ → Bool)) (xs : List ℕ) → length xs ≡ length ts → ((i : ℕ) (d : ℕ → Bool) → i < length ts → slice_index_or ts i d (slice_index xs i) ≡ true) → Passing ts xs
passing_from [] [] e h = tt
passing_from [] (x ∷ xs) e h = absurd (omega arith)
passing_from (t ∷ ts) [] e h = absurd (omega arith)
passing_from (t ∷ ts) (x ∷ xs) e h = (h 0 t (omega arith), passing_from ts xs (omega arith) (λ i d l. h (suc i) d (omega arith)))

-- they fill the slots of these tests
pub passing_in : (ts : List (ℕ → Bool)) (ss : List Slot) (xs l : List ℕ) → Passing ts xs → Reads ss l → Reads (map one ts ++ ss) (xs ++ l)
passing_in [] ss [] l p r = r
passing_in [] ss (x ∷ xs) l p r = absurd p
passing_in (t ∷ ts) ss [] l p r = absurd p
passing_in (t ∷ ts) ss (x ∷ xs) l p r = (p.0, passing_in ts ss xs l p.1 r)

pub passing_out : (ts : List (ℕ → Bool)) (ss : List Slot) (l : List ℕ) (n : ℕ) → length ts ≡ n → Reads (map one ts ++ ss) l → (n ≤ length l) × Passing ts (take n l) × Reads ss (drop n l)
passing_out [] ss l n e r = rw (← e) (omega arith, tt, r)
passing_out (t ∷ ts) ss [] n e r = absurd r
passing_out (t ∷ ts) ss (x ∷ l) n e r =
    let p = passing_out ts ss l (length ts) refl r.1 in
    rw (← e) (omega (arith, p.0), (r.0, p.1), p.2)
