-- What the tests of a system's invariant say.
use Rattle.std.proofs.Common.{◌≡◌, ℕ, zero, suc, ◌<◌, ◌≤◌, Bool, true, List, [], ◌∷◌, length, get_or, IfSome, Some, None, Option, refl, arith}
use Rattle.std.proofs.lemmas.Bool.{and_parts}
use Rattle.std.proofs.lemmas.Bool.Decides.{nat_tests}
use Rattle.std.specs.List.{slice_get}
use Rattle.files.specs.Pattern.{fits, fits_at}
use Rattle.files.specs.Pieces.{every}
use Rattle.files.specs.Program.{Between, Drawn, Fitting, On, Program}
use Rattle.files.specs.Sizes.{one_to, right_sizes}
use Rattle.files.specs.Transition.{is_drawn, operation_fits}
use Rattle.files.specs.declared.pattern.Pattern.{Pattern}
use Rattle.files.specs.declared.transition.Operation.{Operation}
use Rattle.files.specs.declared.transition.Operation.TheVariants.{Nop, Read, Write, Fence, Exchange}
use Rattle.files.specs.declared.transition.Transition.{Transition}

-- what each passes, the one that is found passes
pub every_found : {X : Type 0} (test : X → Bool) (xs : List X) (i : ℕ) → every test xs ≡ true → IfSome (slice_get xs i) (λ x. test x ≡ true)
every_found test [] i e = tt
every_found test (x ∷ xs) zero e = (and_parts (test x) (every test xs) e).0
every_found test (x ∷ xs) (suc i) e = every_found test xs i (and_parts (test x) (every test xs) e).1

-- the same, of the one at i
pub every_at : {X : Type 0} (test : X → Bool) (xs : List X) (i : ℕ) (x : X) → slice_get xs i ≡ Some x → every test xs ≡ true → test x ≡ true
every_at test xs i x h e = rw h at (every_found test xs i e)

pub between_from : (most n : ℕ) → one_to most n ≡ true → Between 1 most n
between_from most n h = grind (arith, nat_tests)

-- the parts of the sizes' test that the lookups use
pub sized_from : (states : List ℕ) (variables values : ℕ) → right_sizes states variables values ≡ true → (length states ≤ 4) × (every (one_to 16) states ≡ true)
sized_from states variables values h = grind (arith, nat_tests)

on_from : (p : Program) (o : Operation) → operation_fits p.variables p.values o ≡ true → On p o
on_from p Nop h = tt
on_from p (Read v a) h = grind (arith, nat_tests)
on_from p (Write v a) h = grind (arith, nat_tests)
on_from p Fence h = tt
on_from p (Exchange v a b) h = grind (arith, nat_tests)

pub drawn_from : (p : Program) (t : Transition) → is_drawn p.states p.variables p.values t ≡ true → Drawn p t
drawn_from p t h =
    let o : operation_fits p.variables p.values t.operation ≡ true = grind (arith, nat_tests) in
    record { process = grind (arith, nat_tests); before = grind (arith, nat_tests); after = grind (arith, nat_tests); operation = on_from p t.operation o }

named_from : (states : List ℕ) (k : ℕ) (o : Option ℕ) → fits_at states k o ≡ true → IfSome o (λ s. s < get_or states k 0)
named_from states k None h = tt
named_from states k (Some s) h = grind (arith, nat_tests)

past_from : (states : List ℕ) (k : ℕ) (o : Option ℕ) → length states ≤ k → fits_at states k o ≡ true → o ≡ None
past_from states k None l h = refl
past_from states k (Some s) l h = grind (arith, nat_tests)

place_from : (states : List ℕ) (q : Pattern) (k : ℕ) → k < 4 → fits states q ≡ true → fits_at states k (get_or q.states k None) ≡ true
place_from states q zero l h = grind (arith, nat_tests)
place_from states q (suc zero) l h = grind (arith, nat_tests)
place_from states q (suc (suc zero)) l h = grind (arith, nat_tests)
place_from states q (suc (suc (suc zero))) l h = grind (arith, nat_tests)
place_from states q (suc (suc (suc (suc k)))) l h = absurd (omega arith)

pub fitting_from : (p : Program) (q : Pattern) → length p.states ≤ 4 → fits p.states q ≡ true → Fitting p q
fitting_from p q n h =
    record {
      named = λ k l. named_from p.states k (get_or q.states k None) (place_from p.states q k (omega arith) h);
      past = λ k l m. past_from p.states k (get_or q.states k None) l (place_from p.states q k m h);
    }
