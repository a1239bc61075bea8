-- A move by hand is a step of the machine, and each step of the machine is such a move.
use Rattle.std.proofs.Common.{◌≡◌, ℕ, zero, suc, ◌+◌, ◌*◌, ◌<◌, ◌≤◌, Bool, true, false, cond, ◌⊎◌, List, [], ◌∷◌, ◌++◌, map, length, get_or, take, drop, set, sym, refl, ap, ◌∙◌, inl, inr, ⊎_elim, add-one, arith, rules}
use Rattle.queue.proofs.Shifts.{popped_queue}
use Rattle.bench.proofs.Playing.{part_within}
use Rattle.std.specs.List.{range_with_len}
use Rattle.std.proofs.lemmas.List.{places, same_lists, get_or-set_same, get_or-set_other, length-set, take_more_set, map_push, length_push, drop-map, take_at, drop_at, length-take-le, length-append, take-append-drop, ext_get_or}
use Rattle.std.proofs.lemmas.List.FromFn.{length-map-range_with_len, get_or-map-range_with_len}
use Rattle.std.proofs.lemmas.Bool.{cases_eq, cases_lt, ltb-true}
use Rattle.machines.specs.Message.{Queue}
use Rattle.queue.specs.Fifo.{Kind, popped, advanced}
use Rattle.rules.specs.declared.effect.Change.{Change}
use Rattle.rules.specs.declared.effect.Change.TheVariants.{Keep, Join, Leave}
use Rattle.bench.specs.Perform.{has_place, places_after, length_after}
use Rattle.rules.specs.Rulebook.{Rulebook, room, changed}
use Rattle.bench.specs.Table.{Table, part, on_part, queue_of, queues, config_of}

-- a part of the records after another has been written over, and that part itself
own_part : {X : Type 0} (a r : ℕ) (ms xs : List X) → a + r ≤ length ms → length xs ≡ r → take r (drop a (take a ms ++ (xs ++ drop (a + r) ms))) ≡ xs
own_part a r ms xs w l =
    ap (take r) (drop_at (take a ms) (xs ++ drop (a + r) ms) a (length-take-le a ms (omega arith))) ∙ take_at xs (drop (a + r) ms) r l

other_part : {X : Type 0} (a b r : ℕ) (ms xs : List X) → a + r ≤ length ms → length xs ≡ r → (b + r ≤ a) ⊎ (a + r ≤ b) → take r (drop b (take a ms ++ (xs ++ drop (a + r) ms))) ≡ take r (drop b ms)
other_part a b r ms xs w l (inl h) = same_lists _ _ (search (rules, places)) (λ i d z. grind (arith, places))
other_part a b r ms xs w l (inr h) = same_lists _ _ (search (rules, places)) (λ i d z. grind (arith, places))

-- two processes have places of their own
apart : (r p k : ℕ) → (k ≡ p → ⊥) → (r * k + r ≤ r * p) ⊎ (r * p + r ≤ r * k)
apart r p k ne =
    ⊎_elim (λ h. inl (part_within r k p (r * p) h (omega arith))) (λ h. inr (part_within r p k (r * k) (strict h) (omega arith))) (cases_lt k p)
  where
    strict : p ≤ k → p < k
    strict h = omega (arith, ne)

length_advanced : {X : Type 0} (z : X) (q : List X) → length (advanced z q) ≡ length q
length_advanced z [] = refl
length_advanced z (m ∷ q) = length_push q z ∙ add-one (length q)

length_popped : {X : Type 0} (z : X) (n : ℕ) (xs : List X) → length (popped z n xs) ≡ length xs
length_popped z n xs =
    length-append (advanced z (take n xs)) (drop n xs)
    ∙ ap (λ i. i + length (drop n xs)) (length_advanced z (take n xs))
    ∙ sym (length-append (take n xs) (drop n xs))
    ∙ ap length (take-append-drop n xs)

pub length_after_lem : {M : Type 0} (z : M) (c : Change M) (n : ℕ) (xs : List M) → length (places_after z c n xs) ≡ length xs
length_after_lem z Keep n xs = refl
length_after_lem z (Join m) n xs = length-set xs n m
length_after_lem z Leave n xs = length_popped z n xs

-- the messages after a change that there is room for
pub changed_is : {M : Type 0} (k : Kind M) (c : Change M) (n : ℕ) (xs : List M) → has_place c n xs ≡ true → map k.means (take (length_after c n xs) (places_after k.zero c n xs)) ≡ changed k c (map k.means (take n xs))
changed_is k Keep n xs h = refl
changed_is k (Join m) n xs h = ap (map k.means) (take_more_set xs n m (ltb-true n (length xs) h)) ∙ map_push k.means (take n xs) m
changed_is k Leave n xs h = ap (map k.means) (popped_queue k.zero n xs) ∙ sym (drop-map k.means 1 (take n xs))

take_none : {X : Type 0} (n : ℕ) → ◌≡◌ {A = List X} (take n []) []
take_none zero = refl
take_none (suc n) = refl

module _ {M : Type 0} (k : Kind M) (u : Rulebook M) (t : Table M) where
  -- the queue that a process meets
  pub at_queue : (b : Bool) → u.buffered ≡ b → (p : ℕ) → p < length t.states → get_or (config_of k u t).queues p [] ≡ queue_of k u t p
  at_queue true e p h = get_or-map-range_with_len (queue_of k u t) 0 (queues u (length t.states)) p p [] (rw e h) (omega arith)
  at_queue false e p h =
      ap (λ q. get_or (map (queue_of k u t) (range_with_len 0 (cond q (length t.states) 0))) p []) e
      ∙ sym (ap (λ q. map k.means (take (get_or t.lengths p 0) (take (cond q 8 0) (drop (cond q 8 0 * p) t.records)))) e ∙ ap (map k.means) (take_none (get_or t.lengths p 0)))

  -- the queues once a change has been made that there is room for
  module _ (p c : ℕ) (xs' : List M) (q : ℕ) (mem' : List ℕ) (queue : Queue)
      (few : p < length t.lengths) (within : room u * p + room u ≤ length t.records) (whole : length xs' ≡ room u)
      (is : map k.means (take c xs') ≡ queue) where
    abbrev after : Table M
    after = record { states = set t.states p q; memory = mem'; lengths = set t.lengths p c; records = on_part u p (λ _. xs') t.records }

    queue_after : (j : ℕ) → (j ≡ p) ⊎ (j ≡ p → ⊥) → (old : List Queue) → p < length old → get_or old j [] ≡ queue_of k u t j → queue_of k u after j ≡ get_or (set old p queue) j []
    queue_after j (inl e) old h g =
        ap (queue_of k u after) e
        ∙ ap (λ n. map k.means (take n (part u p after.records))) (get_or-set_same t.lengths p c 0 few)
        ∙ ap (λ xs. map k.means (take c xs)) (own_part (room u * p) (room u) t.records xs' within whole)
        ∙ is
        ∙ sym (ap (λ i. get_or (set old p queue) i []) e ∙ get_or-set_same old p queue [] h)
    queue_after j (inr e) old h g =
        ap (λ n. map k.means (take n (part u j after.records))) (get_or-set_other t.lengths p j c 0 e)
        ∙ ap (λ xs. map k.means (take (get_or t.lengths j 0) xs)) (other_part (room u * p) (room u * j) (room u) t.records xs' within whole (apart (room u) p j e))
        ∙ sym (get_or-set_other old p j queue [] e ∙ g)

    pub queues_after : (n : ℕ) → p < n ⊎ (n ≡ 0) → map (queue_of k u after) (range_with_len 0 n) ≡ set (map (queue_of k u t) (range_with_len 0 n)) p queue
    queues_after n (inr e) = ap (λ i. map (queue_of k u after) (range_with_len 0 i)) e ∙ sym (ap (λ i. set (map (queue_of k u t) (range_with_len 0 i)) p queue) e)
    queues_after n (inl h) =
        let old = map (queue_of k u t) (range_with_len 0 n) in
        let l = length-map-range_with_len (queue_of k u t) 0 n in
        let l' = length-map-range_with_len (queue_of k u after) 0 n in
        let l'' = length-set old p queue in
        ext_get_or [] _ _ (l' ∙ sym (l'' ∙ l)) (λ j z. get_or-map-range_with_len (queue_of k u after) 0 n j j [] (omega arith) (omega arith) ∙ queue_after j (cases_eq j p) old (omega arith) (get_or-map-range_with_len (queue_of k u t) 0 n j j [] (omega arith) (omega arith)))
