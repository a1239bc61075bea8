-- A search for the lowest number that passes.
use Rattle.std.proofs.Common.{◌≡◌, ℕ, zero, suc, ◌+◌, ◌-◌, ◌*◌, ◌<◌, ◌≤◌, Bool, true, false, cond, List, [], ◌∷◌, length, get_or, MatchOption, Some, None, Option, sym, refl, ap, ◌∙◌, arith}
use Rattle.std.specs.List.{position_from}
use Rattle.std.specs.Option.{option_map}
use Rattle.bench.specs.Play.{lowest}

-- tests that agree on the numbers that are tried
pub lowest_same : (test other : ℕ → Bool) (n i : ℕ) → ((k : ℕ) → i ≤ k → k < i + n → test k ≡ other k) → lowest test n i ≡ lowest other n i
unfolding lowest
lowest_same test other zero i h = refl
lowest_same test other (suc n) i h =
    ap (λ b. cond b (Some i) (lowest test n (i + 1))) (h i (omega arith) (omega arith))
    ∙ ap (cond (other i) (Some i)) (lowest_same test other n (i + 1) (λ k a b. h k (omega arith) (omega arith)))

lowest_none : (test : ℕ → Bool) (n i : ℕ) → ((k : ℕ) → i ≤ k → k < i + n → test k ≡ false) → lowest test n i ≡ None
unfolding lowest
lowest_none test zero i h = refl
lowest_none test (suc n) i h =
    ap (λ b. cond b (Some i) (lowest test n (i + 1))) (h i (omega arith) (omega arith))
    ∙ lowest_none test n (i + 1) (λ k a b. h k (omega arith) (omega arith))

-- the first of two answers
abbrev either : Option ℕ → Option ℕ → Option ℕ
either None o = o
either (Some i) o = Some i

either_none : (o : Option ℕ) → either o None ≡ o
either_none None = refl
either_none (Some i) = refl

either_cond : (b : Bool) (i : ℕ) (o p : Option ℕ) → cond b (Some i) (either o p) ≡ either (cond b (Some i) o) p
either_cond true i o p = refl
either_cond false i o p = refl

-- a search in two parts
lowest_parts : (test : ℕ → Bool) (a b n i : ℕ) → n ≡ a + b → lowest test n i ≡ either (lowest test a i) (lowest test b (i + a))
unfolding lowest
lowest_parts test zero b n i e =
    let m : n ≡ b = omega arith in
    let j : i ≡ i + 0 = omega arith in
    ap (λ x. lowest test x i) m ∙ ap (lowest test b) j
lowest_parts test (suc a) b n i e =
    let m : n ≡ suc (a + b) = omega arith in
    let j : i + 1 + a ≡ i + suc a = omega arith in
    ap (λ x. lowest test x i) m
    ∙ ap (cond (test i) (Some i)) (lowest_parts test a b (a + b) (i + 1) refl ∙ ap (λ x. either (lowest test a (i + 1)) (lowest test b x)) j)
    ∙ either_cond (test i) i (lowest test a (i + 1)) (lowest test b (i + suc a))

-- where nothing passes behind the first a numbers
pub lowest_front : (test : ℕ → Bool) (a n i : ℕ) → a ≤ n → ((k : ℕ) → i + a ≤ k → k < i + n → test k ≡ false) → lowest test n i ≡ lowest test a i
lowest_front test a n i w h =
    lowest_parts test a (n - a) n i (omega arith)
    ∙ ap (either (lowest test a i)) (lowest_none test (n - a) (i + a) (λ k x y. h k x (omega arith)))
    ∙ either_none (lowest test a i)

moved_cond : (b : Bool) (a i : ℕ) (o p : Option ℕ) → option_map (λ x. a + x) o ≡ p → option_map (λ x. a + x) (cond b (Some i) o) ≡ cond b (Some (a + i)) p
moved_cond true a i o p e = refl
moved_cond false a i o p e = e

-- the first element that passes, where the elements stand at the numbers from a on
pub first_is_lowest : {X : Type 0} (test : ℕ → Bool) (of : X → Bool) (xs : List X) (a i : ℕ) (d : X) → ((k : ℕ) → k < length xs → of (get_or xs k d) ≡ test (a + i + k)) → option_map (λ x. a + x) (position_from of i xs) ≡ lowest test (length xs) (a + i)
unfolding lowest
first_is_lowest test of [] a i d h = refl
first_is_lowest test of (x ∷ xs) a i d h =
    let z : a + i + 0 ≡ a + i = omega arith in
    let j : a + (i + 1) ≡ a + i + 1 = omega arith in
    let rest = first_is_lowest test of xs a (i + 1) d (λ k l. let s : a + i + suc k ≡ a + (i + 1) + k = omega arith in h (suc k) (omega arith) ∙ ap test s) in
    moved_cond (of x) a i (position_from of (i + 1) xs) (lowest test (length xs) (a + i + 1)) (rest ∙ ap (lowest test (length xs)) j)
    ∙ ap (λ b. cond b (Some (a + i)) (lowest test (length xs) (a + i + 1))) (h 0 (omega arith) ∙ ap test z)

-- a search in parts of eight: none passes, or the first part where one does answers
parts_none : (test : ℕ → Bool) (n p : ℕ) → ((j : ℕ) → p ≤ j → j < p + n → None ≡ lowest test 8 (8 * j)) → None ≡ lowest test (8 * n) (8 * p)
parts_none test zero p h = sym (lowest_none test 0 (8 * p) (λ k a b. absurd (omega arith)))
parts_none test (suc n) p h =
    let s : 8 * p + 8 ≡ 8 * (p + 1) = omega arith in
    parts_none test n (p + 1) (λ j a b. h j (omega arith) (omega arith))
    ∙ ap (lowest test (8 * n)) (sym s)
    ∙ ap (λ o. either o (lowest test (8 * n) (8 * p + 8))) (h p (omega arith) (omega arith))
    ∙ sym (lowest_parts test 8 (8 * n) (8 * suc n) (8 * p) (omega arith))

parts_some : (test : ℕ → Bool) (n i y : ℕ) → i < n → Some y ≡ lowest test 8 (8 * i) → ((j : ℕ) → j < i → None ≡ lowest test 8 (8 * j)) → Some y ≡ lowest test (8 * n) 0
parts_some test n i y w e h =
    let b = n - i - 1 in
    let z : 0 + 8 * i ≡ 8 * i = omega arith in
    ap (λ o. either o (lowest test (8 * b) (8 * i + 8))) e
    ∙ sym (lowest_parts test 8 (8 * b) (8 * (n - i)) (8 * i) (omega arith))
    ∙ ap (lowest test (8 * (n - i))) (sym z)
    ∙ ap (λ o. either o (lowest test (8 * (n - i)) (0 + 8 * i))) (parts_none test i 0 (λ j a b. h j (omega arith)))
    ∙ sym (lowest_parts test (8 * i) (8 * (n - i)) (8 * n) 0 (omega arith))

pub parts_found : (test : ℕ → Bool) (n : ℕ) (r : Option ℕ) → MatchOption r ((j : ℕ) → j < n → None ≡ lowest test 8 (8 * j)) (λ y. (i : ℕ) × (i < n) × (Some y ≡ lowest test 8 (8 * i)) × ((j : ℕ) → j < i → None ≡ lowest test 8 (8 * j))) → r ≡ lowest test (8 * n) 0
parts_found test n None h = parts_none test n 0 (λ j a b. h j (omega arith))
parts_found test n (Some y) (i, w, e, h) = parts_some test n i y w e h
