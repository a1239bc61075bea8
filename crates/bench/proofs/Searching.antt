-- A search by `find_map` over the numbers below n.
use Rattle.std.proofs.Common.{◌≡◌, ℕ, ◌+◌, ◌<◌, IfSome, IsSomeAnd, MatchOption, Some, None, Option, ap, ◌∙◌, subst, arith}
use denote.Param.Members.{Mut, Called}
use Rattle.std.specs.Bool.{IsTrue}
use Rattle.std.specs.Iterator.Runs.{AllItemsGive, CallKeepsClosure, IsFirstToGive, ItemsCountUp, Run}
use Rattle.std.specs.Option.{option_map}

-- what holds of an item that is known
item : (o : Option ℕ) (P : ℕ → Type 0) (x : ℕ) → option_map (λ y. y) o ≡ Some x → IfSome o P → P x
item None P x e h = grind arith
item (Some y) P x e h = subst P (grind arith) h

sure_item : (o : Option ℕ) (P : ℕ → Type 0) (x : ℕ) → option_map (λ y. y) o ≡ Some x → IsSomeAnd o P → P x
sure_item None P x e h = absurd h
sure_item (Some y) P x e h = subst P (grind arith) h

-- the search ends at the first number at which the closure answers, or at none
module _ {S F B : Type 0} {steps : S → Option ℕ → S → Type 0} (g : Mut F (ℕ × Unit {0}) (Option B)) (f : F) (p : Run steps) (n : ℕ) (Q : ℕ → Option B → Type 0) (counts : ItemsCountUp p 0 n) (keeps : CallKeepsClosure g f) (told : (i : ℕ) (o : Option B) → i < n → Called g f (i, tt) o f → Q i o) where
  at_place : (k : ℕ) → k < p.len → option_map (λ y. y) (p.at k) ≡ Some k
  at_place k h = counts.3 k h ∙ ap Some (omega arith)

  pub found_first : (r : Option B) → MatchOption r (IsTrue p.whole × AllItemsGive p g f None) (λ y. (i : ℕ) × (i < p.len) × (p.len ≡ i + 1) × IsFirstToGive p g f (Some y) None i)
      → MatchOption r ((j : ℕ) → j < n → Q j None) (λ y. (i : ℕ) × (i < n) × Q i (Some y) × ((j : ℕ) → j < i → Q j None))
  found_first None (whole, all) = λ j h. told j None h (item (p.at j) (λ x. Called g f (x, tt) None f) j (at_place j (omega (arith, counts.1 whole))) (all keeps j))
  found_first (Some y) (i, within, long, first) =
      let here = first keeps in
      let low : i < n = omega (arith, counts.0) in (
        i,
        low,
        told i (Some y) low (sure_item (p.at i) (λ x. Called g f (x, tt) (Some y) f) i (at_place i within) here.0),
        λ j h. told j None (omega arith) (sure_item (p.at j) (λ x. Called g f (x, tt) None f) j (at_place j (omega arith)) (here.1 j h)),
      )
