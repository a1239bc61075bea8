-- On rows that lie packed in memory.
use Rattle.std.proofs.Common.{◌≡◌, ℕ, zero, suc, ◌+◌, ◌-◌, ◌*◌, ◌/◌, ◌<◌, ◌≤◌, List, [], ◌∷◌, ◌++◌, length, get_or, take, drop, sym, refl, ap, ◌∙◌, append-nil, mul-le-mul_right, suc-mul, add-mul, mul-le-mul, one-mul, zero-mul, arith}
use Rattle.std.proofs.lemmas.Nat.{div-add-mod'}
use Rattle.std.proofs.lemmas.List.{drop-drop, drop-append-le, take-append-le, take_at, nil_from_length, length-take-le, length-append, length-drop}
use Rattle.rows.specs.Checks.{places}
use Rattle.rows.specs.Standing.{row_at, standing}

-- row i of n ends within n rows
pub row_end : (i n w : ℕ) → i < n → i * w + w ≤ n * w
row_end i n w h =
    let k : i + 1 ≤ n = omega arith in
    let p : (i + 1) * w ≤ n * w = mul-le-mul_right w k in
    omega (arith, p, add-mul i 1 w, one-mul w)

-- lines for which there are places fit into memory
pub places_fit : (n w memory : ℕ) → n ≤ places w memory → n * w ≤ memory
places_fit n w memory h = let q : n * w ≤ memory / w * w = mul-le-mul_right w (omega arith) in omega (arith, q, div-add-mod' memory w)

-- a part from the start, as the checker writes it
pub front_long : (w : ℕ) (s : List ℕ) → w ≤ length s → length (take (w - 0) s) ≡ w
front_long w s h = length-take-le (w - 0) s (omega arith) ∙ omega arith

pub front_kept : (w : ℕ) (x s : List ℕ) → w ≤ length s → length x ≡ w → length (x ++ drop w s) ≡ length s
front_kept w x s h e = simp (length-append, length-drop) (omega arith)

pub standing_length : (w n : ℕ) (mem : List ℕ) → length (standing w n mem) ≡ n
unfolding standing
standing_length w zero mem = refl
standing_length w (suc n) mem = ap suc (standing_length w n (drop w mem))

row_next : (w : ℕ) (mem : List ℕ) (i : ℕ) → row_at w (drop w mem) i ≡ row_at w mem (suc i)
row_next w mem i = ap (λ l. take w l) (drop-drop (i * w) w mem ∙ ap (λ n. drop n mem) (let e = suc-mul i w in omega arith))

pub standing_at : (w n : ℕ) (mem : List ℕ) (i : ℕ) → i < n → get_or (standing w n mem) i [] ≡ row_at w mem i
unfolding standing
standing_at w zero mem i h = absurd (omega arith)
standing_at w (suc n) mem zero h = ap (λ k. take w (drop k mem)) (sym (zero-mul w))
standing_at w (suc n) mem (suc i) h = standing_at w n (drop w mem) i (omega arith) ∙ row_next w mem i

-- rows in two parts of memory
pub standing_append : (w a b : ℕ) (p q : List ℕ) → length p ≡ a * w → standing w (a + b) (p ++ q) ≡ standing w a p ++ standing w b q
unfolding standing
standing_append w zero b p q e =
    let n : p ≡ [] = nil_from_length p (e ∙ zero-mul w) in
    ap (λ k. standing w k (p ++ q)) (omega arith) ∙ ap (λ l. standing w b (l ++ q)) n
standing_append w (suc a) b p q e =
    let m = suc-mul a w in
    let s : suc a + b ≡ suc (a + b) = omega arith in
    let h : w ≤ length p = omega arith in
    let d : length (drop w p) ≡ a * w = length-drop w p ∙ omega arith in
    ap (λ k. standing w k (p ++ q)) s
    ∙ ap (λ x. x ∷ standing w (a + b) (drop w (p ++ q))) (take-append-le w p q h)
    ∙ ap (λ x. take w p ∷ standing w (a + b) x) (drop-append-le w p q h)
    ∙ ap (λ x. take w p ∷ x) (standing_append w a b (drop w p) q d)

-- what lies past the rows does not count
pub standing_front : (w a : ℕ) (p q : List ℕ) → length p ≡ a * w → standing w a (p ++ q) ≡ standing w a p
unfolding standing
standing_front w a p q e = ap (λ k. standing w k (p ++ q)) (omega arith) ∙ standing_append w a 0 p q e ∙ append-nil _

pub standing_one : (w : ℕ) (p q : List ℕ) → length p ≡ w → standing w 1 (p ++ q) ≡ p ∷ []
unfolding standing
standing_one w p q e = ap (λ x. x ∷ []) (take_at p q w e)
