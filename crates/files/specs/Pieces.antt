-- A section that is a row of pieces of equal width, each of which says one thing or is wrong.
use Rattle.std.specs.Prelude.{◌≡◌, ℕ, zero, suc, ◌+◌, ◌*◌, ◌/◌, ◌%◌, Bool, true, not, cond, ◌&&◌, List, [], ◌∷◌, length, map, take, drop, is_some, Some, None, Ok, Err, vec_items, Option, Result, Vec, ◌==◌, nat_le, position}
use Rattle.std.specs.Fn.{FnReturnsAt}
use Rattle.std.specs.List.{filter_map}
use Rattle.std.specs.Option.{option_map}
use Rattle.std.specs.declared.alloc.Global.{Global}
use denote.Param.Members.{Shared}
use denote.Ref.{Bor}
use Rattle.files.specs.declared.system_fault.SystemFault.{SystemFault}
use Rattle.files.specs.declared.system_fault.SystemFault.TheVariants.{Memory}

-- the value, if it passes a test
abbrev pub checked : {X : Type 0} → (X → Bool) → Option X → Option X
checked test None = None
checked test (Some x) = cond (test x) (Some x) None

-- whether each element passes a test
abbrev pub every : {X : Type 0} → (X → Bool) → List X → Bool
every test [] = true
every test (x ∷ xs) = test x && every test xs

-- the number of pieces, if no bytes are left over and there are not more than `most`
abbrev pub piece_count : ℕ → ℕ → List ℕ → Option ℕ
piece_count width most bs = cond (length bs % width == 0 && nat_le (length bs / width) most) (Some (length bs / width)) None

-- the first n pieces
abbrev pub pieces : ℕ → ℕ → List ℕ → List (List ℕ)
pieces width zero bs = []
pieces width (suc n) bs = take width bs ∷ pieces width n (drop width bs)

-- each answer of a reader of pieces is what `decode` says of the piece
abbrev pub Reads : {X F : Type 0} → Shared F (Bor (List ℕ) × Unit {0}) (Option X) → F → (List ℕ → Option X) → Type 0
Reads {X} g read decode = (bs : List ℕ) (answer : Option X) → FnReturnsAt g read bs answer → answer ≡ decode bs

-- what the first n pieces say, the wrong ones left out
abbrev pub decoded : {X : Type 0} → (List ℕ → Option X) → ℕ → ℕ → List ℕ → List X
decoded decode width n bs = filter_map decode (pieces width n bs)

-- the place of the first wrong piece among the first n, in a section at `base`
abbrev pub first_wrong : {X : Type 0} → (List ℕ → Option X) → ℕ → ℕ → ℕ → List ℕ → Option ℕ
first_wrong decode width n base bs = option_map (λ i. base + width * i) (position (λ answer. not (is_some answer)) (map decode (pieces width n bs)))

abbrev pub wrong_from : {X : Type 0} → Option ℕ → (List ℕ → Option X) → ℕ → ℕ → List ℕ → Option ℕ
wrong_from None decode width base bs = Some base
wrong_from (Some n) decode width base bs = first_wrong decode width n base bs

-- the place of the first fault of a section at `base`
abbrev pub section_fault : {X : Type 0} → (List ℕ → Option X) → ℕ → ℕ → ℕ → List ℕ → Option ℕ
section_fault decode width most base bs = wrong_from (piece_count width most bs) decode width base bs

-- the list, unless the memory did not suffice
abbrev pub Built : {X : Type 0} → List X → Result (Vec X Global) SystemFault → Type 0
Built xs (Ok v) = vec_items v ≡ xs
Built xs (Err f) = f ≡ Memory
