-- The steps of reading a line.
use Rattle.std.specs.Prelude.{◌≡◌, ℕ, ◌+◌, ◌<◌, ◌≤◌, Bool, true, false, List, [], ◌∷◌, length, drop, Some, None, Ok, Err, slice_index}
use Rattle.std.proofs.Common.{⊎_elim, arith}
use Rattle.std.proofs.lemmas.List.{drop_all, drop_more}
use Rattle.std.proofs.lemmas.Bool.{cases_Bool, cases_lt}
use Rattle.std.proofs.lemmas.Bool.Decides.{nat_tests}
use Rattle.files.specs.declared.list_fault.LineFault.{LineFault}
use Rattle.files.specs.declared.list_fault.LineFault.TheVariants.{Byte, Early}
use Rattle.load_buffers.specs.Reading.{Slot, after, passes, taken, walk}

-- a byte that is taken
pub taken_ok : (test : ℕ → Bool) (l : List ℕ) (at b : ℕ) → Ok b ≡ taken test l at → (at < length l) × (test (slice_index l at) ≡ true) × (slice_index l at ≡ b)
taken_ok test l at b e =
    let t = cases_Bool (test (slice_index l at)) in (grind (arith, nat_tests), grind (arith, nat_tests), grind (arith, nat_tests))

pub walk_on : (s : Slot) (ss : List Slot) (l : List ℕ) (i b : ℕ) → i < length l → slice_index l i ≡ b → passes s b ≡ true → walk i (s ∷ ss) (drop i l) ≡ walk (i + 1) (after s b ss) (drop (i + 1) l)
unfolding walk
walk_on s ss l i b h e p = rw (drop_more l i 0 h, e, p)

walk_over : (s : Slot) (ss : List Slot) (l : List ℕ) (i : ℕ) → i < length l → passes s (slice_index l i) ≡ false → walk i (s ∷ ss) (drop i l) ≡ Some (Byte i)
unfolding walk
walk_over s ss l i h p = rw (drop_more l i 0 h, p)

walk_early : (s : Slot) (ss : List Slot) (l : List ℕ) (i : ℕ) → length l ≤ i → walk i (s ∷ ss) (drop i l) ≡ Some (Early i)
unfolding walk
walk_early s ss l i h = rw (drop_all i l h)

-- all is read, or there is more
pub walk_none : (l : List ℕ) (i : ℕ) → length l ≤ i → walk i [] (drop i l) ≡ None
unfolding walk
walk_none l i h = rw (drop_all i l h)

pub walk_more : (l : List ℕ) (i : ℕ) → i < length l → walk i [] (drop i l) ≡ Some (Byte i)
unfolding walk
walk_more l i h = rw (drop_more l i 0 h)

early : (test : ℕ → Bool) (l : List ℕ) (at : ℕ) (f : LineFault) → at ≡ length l → Err f ≡ taken test l at → f ≡ Early at
early test l at f h e = grind (arith, nat_tests)

refused : (test : ℕ → Bool) (l : List ℕ) (at : ℕ) (f : LineFault) → at < length l → Err f ≡ taken test l at → (f ≡ Byte at) × (test (slice_index l at) ≡ false)
refused test l at f h e = let t = cases_Bool (test (slice_index l at)) in (grind (arith, nat_tests), grind (arith, nat_tests))

-- a byte that is not taken is the fault
pub taken_err : (s : Slot) (l : List ℕ) (at : ℕ) (f : LineFault) → at ≤ length l → Err f ≡ taken (passes s) l at → (ss : List Slot) → walk at (s ∷ ss) (drop at l) ≡ Some f
taken_err s l at f h e ss =
    ⊎_elim
    (λ k. let g = refused (passes s) l at f k e in rw g.0 (walk_over s ss l at k g.1))
    (λ k. let n : at ≡ length l = omega arith in let g = early (passes s) l at f n e in rw g (walk_early s ss l at k))
    (cases_lt at (length l))
