-- A queue of a line, read into ten bytes.
use Rattle.std.proofs.Common.{◌≡◌, ℕ, suc, ◌+◌, ◌-◌, ◌<◌, ◌≤◌, List, [], ◌∷◌, ◌++◌, map, length, get_or, take, drop, set, replicate, Some, Ok, Err, sym, refl, ap, ◌∙◌, arith}
use Rattle.std.proofs.lemmas.List.{append_assoc, drop_more, get_or-drop, get_or-take, length-drop, length_push, length-take-le, set_at, take_more}
use Rattle.std.proofs.lemmas.Bool.{ltb-true}
use Rattle.files.specs.declared.list_fault.LineFault.{LineFault}
use Rattle.files.specs.declared.sizes.Sizes.{Sizes}
use Rattle.load_buffers.specs.Reading.{QueueRead, Slot, below, is_message, one, padded, queue, taken, walk}
use Rattle.load_buffers.specs.Walks.{taken_err, taken_ok, walk_on}

-- the nine places of a queue
pub place_at : (q : List ℕ) (i : ℕ) → i < 9 → get_or (take 9 (drop 1 q)) i 0 ≡ get_or q (1 + i) 0
place_at q i h = get_or-take 9 (drop 1 q) i 0 h ∙ get_or-drop 1 q i 0

padded_more : (q : List ℕ) (b : ℕ) → length q < 10 → set (padded q) (length q) b ≡ padded (q ++ b ∷ [])
padded_more q b h =
    let m = 10 - length (q ++ b ∷ []) in
    let n = length_push q b in
    let e : 10 - length q ≡ suc m = omega arith in
    ap (λ k. set (q ++ replicate k 0) (length q) b) e ∙ set_at q 0 (replicate m 0) b (length q) refl ∙ sym (append_assoc q (b ∷ []) (replicate m 0))

queue_more : (l : List ℕ) (at i j b : ℕ) (q : List ℕ) → j ≡ 1 + i → i < 9 → at + 1 + i < length l → get_or l (at + 1 + i) 0 ≡ b → q ≡ padded (take (suc i) (drop at l)) → set q j b ≡ padded (take (suc (i + 1)) (drop at l))
queue_more l at i j b q f h k v e =
    let xs = drop at l in
    let d = length-drop at l in
    let n : length (take (suc i) xs) ≡ suc i = length-take-le (suc i) xs (omega arith) in
    let m : j ≡ length (take (suc i) xs) = omega arith in
    let o : at + suc i ≡ at + 1 + i = omega arith in
    let r : get_or xs (suc i) 0 ≡ b = get_or-drop at l (suc i) 0 ∙ ap (λ x. get_or l x 0) o ∙ v in
    let t = take_more xs (suc i) 0 (omega arith) in
    let u : suc i + 1 ≡ suc (i + 1) = omega arith in
    let w : take (suc (i + 1)) xs ≡ take (suc i) xs ++ b ∷ [] = cc in
    ap (λ p. set p j b) e ∙ ap (λ x. set (padded (take (suc i) xs)) x b) m ∙ padded_more (take (suc i) xs) b (omega arith) ∙ ap padded (sym w)

-- the count at a place is read, and i of its messages
pub record Partly (z : Sizes) (l : List ℕ) (at count i : ℕ) (q : List ℕ) : Type 0 where
  pub count_is : get_or l at 0 ≡ count
  pub few : count < 9
  pub within : at + 1 + i ≤ length l
  pub ten : q ≡ padded (take (suc i) (drop at l))
  pub on : (k : ℕ) (ss : List Slot) → k + i ≡ count → walk at (queue z ∷ ss) (drop at l) ≡ walk (at + 1 + i) (map one (replicate k (is_message z)) ++ ss) (drop (at + 1 + i) l)

module _ (z : Sizes) (l : List ℕ) (at count : ℕ) where
  pub partly_none : Ok count ≡ taken (below 9) l at → Partly z l at count 0 (set (replicate 10 0) 0 count)
  partly_none t =
      let g = taken_ok (below 9) l at count t in
      let p = rw g.2 at g.1 in
      let v : drop at l ≡ count ∷ drop (at + 1) l = drop_more l at 0 g.0 ∙ ap (λ x. x ∷ drop (at + 1) l) g.2 in
      let o : at + 1 ≡ at + 1 + 0 = omega arith in
      record {
        count_is = g.2;
        few = omega (arith, ltb-true count 9 p);
        within = omega (arith, g.0);
        ten = ap (λ x. padded (take 1 x)) (sym v);
        on = λ k ss f.
            let c : count ≡ k = omega arith in
            walk_on (queue z) ss l at count g.0 g.2 p
            ∙ ap (λ x. walk x (map one (replicate count (is_message z)) ++ ss) (drop x l)) o
            ∙ ap (λ x. walk (at + 1 + 0) (map one (replicate x (is_message z)) ++ ss) (drop (at + 1 + 0) l)) c;
      }

  module _ (i : ℕ) (q : List ℕ) (part : Partly z l at count i q) where
    pub partly_more : (j b : ℕ) → i < count → j ≡ 1 + i → Ok b ≡ taken (is_message z) l (at + 1 + i) → Partly z l at count (i + 1) (set q j b)
    partly_more j b h e t =
        let g = taken_ok (is_message z) l (at + 1 + i) b t in
        let o : at + 1 + i + 1 ≡ at + 1 + (i + 1) = omega arith in
        record {
          count_is = part.count_is;
          few = part.few;
          within = omega (arith, g.0);
          ten = queue_more l at i j b q e (omega arith) g.0 g.2 part.ten;
          on = λ k ss f.
              part.on (suc k) ss (omega arith)
              ∙ walk_on (one (is_message z)) (map one (replicate k (is_message z)) ++ ss) l (at + 1 + i) b g.0 g.2 (rw g.2 at g.1)
              ∙ ap (λ x. walk x (map one (replicate k (is_message z)) ++ ss) (drop x l)) o;
        }

    pub partly_fault : (f : LineFault) → i < count → Err f ≡ taken (is_message z) l (at + 1 + i) → (ss : List Slot) → walk at (queue z ∷ ss) (drop at l) ≡ Some f
    partly_fault f h t ss =
        let k = count - i - 1 in
        part.on (suc k) ss (omega arith) ∙ taken_err (one (is_message z)) l (at + 1 + i) f part.within t (map one (replicate k (is_message z)) ++ ss)

    pub partly_all : i ≡ count → QueueRead z l at (at + 1 + count) q
    partly_all e =
        let p : Partly z l at count count q = rw e at part in
        let o : suc count ≡ suc (get_or l at 0) = omega arith in
        record { within = p.within; end_is = omega arith; ten = rw (← o) p.ten; on = λ ss. p.on 0 ss (omega arith) }
