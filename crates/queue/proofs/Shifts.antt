-- The places of a queue while its oldest message goes.
use Rattle.std.proofs.Common.{◌≡◌, ℕ, zero, suc, ◌-◌, List, [], ◌∷◌, ◌++◌, length, take, drop, refl, ap, ◌∙◌, arith, rules}
use Rattle.std.proofs.lemmas.List.{same_lists, places, take_at, append_assoc}
use Rattle.queue.specs.Fifo.{advanced, popped}

-- a count past the places is no more than the places
take_same : {X : Type 0} (n k : ℕ) (xs : List X) → k ≡ length (take n xs) → take k xs ≡ take n xs
take_same n k xs h = same_lists _ _ (search (rules, places)) (λ i d l. grind (arith, places))

drop_same : {X : Type 0} (n k : ℕ) (xs : List X) → k ≡ length (take n xs) → drop k xs ≡ drop n xs
drop_same n k xs h = same_lists _ _ (search (rules, places)) (λ i d l. grind (arith, places))

-- the places once the oldest has gone, as the code makes them
pub popped_is : {X : Type 0} (n k : ℕ) (xs ys : List X) (z y : X) → k ≡ length (take n xs) → y ≡ z → ys ≡ advanced y (take k xs) → ys ++ drop k xs ≡ popped z n xs
popped_is n k xs ys z y h a e = let t = take_same n k xs h in let d = drop_same n k xs h in cc

-- what is queued then
pub popped_queue : {X : Type 0} (z : X) (n : ℕ) (xs : List X) → take (length (take n xs) - 1) (popped z n xs) ≡ drop 1 (take n xs)
popped_queue z zero xs = refl
popped_queue z (suc n) [] = refl
popped_queue z (suc n) (x ∷ xs) =
    let e : suc (length (take n xs)) - 1 ≡ length (take n xs) = omega arith in
    ap (λ k. take k ((take n xs ++ z ∷ []) ++ drop n xs)) e
    ∙ ap (take (length (take n xs))) (append_assoc (take n xs) (z ∷ []) (drop n xs))
    ∙ take_at (take n xs) (z ∷ drop n xs) (length (take n xs)) refl
