-- On bytes that are laid over a place.
use Rattle.std.proofs.Common.{◌≡◌, ℕ, ◌+◌, ◌-◌, ◌≤◌, List, [], ◌++◌, length, take, drop, sym, ap, ◌∙◌, arith}
use borrow.Rule.Slice.PartMut.{put_mid}
use Rattle.std.proofs.lemmas.List.{append_assoc, append-nil, length-append, length-take-le, length-drop, take-append-drop, take_all, take_at, drop_all, drop_at, drop-drop}
use Rattle.listing.specs.Laid.{laid}

-- a write to a part of the place
pub laid_part : (at k : ℕ) (x place : List ℕ) → k ≡ length x → put_mid at k place x ≡ laid at x place
unfolding laid
laid_part at k x place e = ap (λ l. take at place ++ (x ++ l)) (drop-drop k at place ∙ ap (λ n. drop (at + n) place) e)

-- nothing more than the bytes, and what stands behind them
pub laid_front : (x place : List ℕ) → laid 0 x place ≡ x ++ drop (length x) place
unfolding laid
laid_front x place = ap (λ n. x ++ drop n place) (omega arith)

-- no bytes change nothing
pub laid_none : (at : ℕ) (place : List ℕ) → laid at [] place ≡ place
unfolding laid
laid_none at place = ap (λ n. take at place ++ drop n place) (omega arith) ∙ take-append-drop at place

-- bytes that are laid right behind others
pub laid_more : (at end : ℕ) (x y place : List ℕ) → end ≡ at + length x → end ≤ length place → laid end y (laid at x place) ≡ laid at (x ++ y) place
unfolding laid
laid_more at end x y place e h =
    let front = take at place ++ x in
    let n : length front ≡ end = length-append (take at place) x ∙ ap (λ m. m + length x) (length-take-le at place (omega arith)) ∙ sym e in
    let rest = drop (at + length x) place in
    let a : laid at x place ≡ front ++ rest = sym (append_assoc (take at place) x rest) in
    let t : take end (laid at x place) ≡ front = ap (take end) a ∙ take_at front rest end n in
    let d : drop (end + length y) (laid at x place) ≡ drop (at + length (x ++ y)) place =
    sym (drop-drop (length y) end (laid at x place)) ∙ ap (λ l. drop (length y) (drop end l)) a ∙ ap (drop (length y)) (drop_at front rest end n) ∙ drop-drop (length y) (at + length x) place ∙ ap (λ m. drop m place) (let q = length-append x y in omega arith) in
    ap (λ l. l ++ (y ++ drop (end + length y) (laid at x place))) t
    ∙ ap (λ l. front ++ (y ++ l)) d
    ∙ append_assoc (take at place) x (y ++ drop (at + length (x ++ y)) place)
    ∙ ap (λ l. take at place ++ l) (sym (append_assoc x y (drop (at + length (x ++ y)) place)))

-- bytes at the front of a part that goes to the end of the place
pub laid_rest : (at k : ℕ) (x place : List ℕ) → k ≡ length place - at → at ≤ length place → put_mid at k place (laid 0 x (take k (drop at place))) ≡ laid at x place
unfolding laid
laid_rest at k x place e h =
    let m = length-drop at place in
    let whole : take k (drop at place) ≡ drop at place = take_all k (drop at place) (omega arith) in
    let none : drop k (drop at place) ≡ [] = drop_all k (drop at place) (omega arith) in
    ap (λ l. take at place ++ ((x ++ drop (0 + length x) l) ++ drop k (drop at place))) whole
    ∙ ap (λ l. take at place ++ ((x ++ drop (0 + length x) (drop at place)) ++ l)) none
    ∙ ap (λ l. take at place ++ l) (append-nil (x ++ drop (0 + length x) (drop at place)))
    ∙ ap (λ l. take at place ++ (x ++ l)) (drop-drop (0 + length x) at place ∙ ap (λ n. drop n place) (omega arith))
