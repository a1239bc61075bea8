-- A test whether one configuration is below another. It tries every way to leave messages out, so it suits short queues only.
use Rattle.std.proofs.Common.{◌≡◌, ℕ, Bool, true, false, cond, not, ◌&&◌, ◌||◌, eqb, List, [], ◌∷◌, refl, ⊎_elim, arith}
use mathlib.Core.Bool.{false≢true}
use Rattle.std.proofs.lemmas.Bool.{and_from, and_parts, eq-eqb, eqb-true, not-true, not_from_false, or_cases, or_left, or_right}
use Rattle.std.proofs.lemmas.Bool.Decides.{nat_tests}
use Rattle.std.specs.List.{AllZip}
use Rattle.machines.proofs.Literal.{below_from_walk, walk_from_below}
use Rattle.machines.proofs.Walk.{Walk, end, keep, omit}
use Rattle.machines.specs.Config.{Config}
use Rattle.machines.specs.Message.{Message, Queue}
use Rattle.machines.specs.Order.{LoadBelow, QueueBelow, divides}

abbrev same_numbers : List ℕ → List ℕ → Bool
same_numbers [] [] = true
same_numbers [] (y ∷ ys) = false
same_numbers (x ∷ xs) [] = false
same_numbers (x ∷ xs) (y ∷ ys) = eqb x y && same_numbers xs ys

numbers_true : (xs ys : List ℕ) → same_numbers xs ys ≡ true → xs ≡ ys
numbers_true [] [] e = refl
numbers_true [] (y ∷ ys) e = absurd (false≢true e)
numbers_true (x ∷ xs) [] e = absurd (false≢true e)
numbers_true (x ∷ xs) (y ∷ ys) e =
    let (a, b) = and_parts (eqb x y) (same_numbers xs ys) e in
    let h = eqb-true x y a in
    let t = numbers_true xs ys b in
    cc

numbers_same : (xs : List ℕ) → same_numbers xs xs ≡ true
numbers_same [] = refl
numbers_same (x ∷ xs) = and_from (eqb x x) (same_numbers xs xs) (eq-eqb x x refl) (numbers_same xs)

abbrev same_message : Message → Message → Bool
same_message m n = cond m.own n.own (not n.own) && (eqb m.variable n.variable && eqb m.value n.value)

message_true : (m n : Message) → same_message m n ≡ true → m ≡ n
message_true m n e = grind (arith, nat_tests)

message_same : (m : Message) → same_message m m ≡ true
message_same m = grind (arith, nat_tests)

abbrev walks : Queue → Queue → Bool
walks [] [] = true
walks (m ∷ p) [] = false
walks [] (n ∷ q) = not (divides n q) && walks [] q
walks (m ∷ p) (n ∷ q) = (same_message m n && walks p q) || (not (divides n q) && walks (m ∷ p) q)

kept : (m n : Message) (p q : Queue) → m ≡ n → Walk p q → Walk (m ∷ p) (n ∷ q)
kept m n p q e w = rw e (keep w)

walks_true : (p q : Queue) → walks p q ≡ true → Walk p q
walks_true [] [] e = end
walks_true (m ∷ p) [] e = absurd (false≢true e)
walks_true [] (n ∷ q) e =
    let (a, b) = and_parts (not (divides n q)) (walks [] q) e in
    omit (not-true (divides n q) a) (walks_true [] q b)
walks_true (m ∷ p) (n ∷ q) e = go (walks_true p q) (walks_true (m ∷ p) q)
  where
    go : (walks p q ≡ true → Walk p q) → (walks (m ∷ p) q ≡ true → Walk (m ∷ p) q) → Walk (m ∷ p) (n ∷ q)
    go f g =
        ⊎_elim
        (λ h. let (a, b) = and_parts (same_message m n) (walks p q) h in kept m n p q (message_true m n a) (f b))
        (λ h. let (a, b) = and_parts (not (divides n q)) (walks (m ∷ p) q) h in omit (not-true (divides n q) a) (g b))
        (or_cases (same_message m n && walks p q) (not (divides n q) && walks (m ∷ p) q) e)

walks_walk : (p q : Queue) → Walk p q → walks p q ≡ true
walks_walk [] [] w = refl
walks_walk (m ∷ p) [] w = elim w [ ]
walks_walk [] (n ∷ q) (omit e w) = and_from (not (divides n q)) (walks [] q) (not_from_false (divides n q) e) (walks_walk [] q w)
walks_walk (m ∷ p) (n ∷ q) (keep w) =
    or_left (same_message m m && walks p q) (not (divides m q) && walks (m ∷ p) q)
    (and_from (same_message m m) (walks p q) (message_same m) (walks_walk p q w))
walks_walk (m ∷ p) (n ∷ q) (omit e w) =
    or_right (same_message m n && walks p q) (not (divides n q) && walks (m ∷ p) q)
    (and_from (not (divides n q)) (walks (m ∷ p) q) (not_from_false (divides n q) e) (walks_walk (m ∷ p) q w))

abbrev each_walks : List Queue → List Queue → Bool
each_walks [] [] = true
each_walks [] (q ∷ qs) = false
each_walks (p ∷ ps) [] = false
each_walks (p ∷ ps) (q ∷ qs) = walks p q && each_walks ps qs

each_true : (ps qs : List Queue) → each_walks ps qs ≡ true → AllZip QueueBelow ps qs
each_true [] [] e = tt
each_true [] (q ∷ qs) e = absurd (false≢true e)
each_true (p ∷ ps) [] e = absurd (false≢true e)
each_true (p ∷ ps) (q ∷ qs) e =
    let (a, b) = and_parts (walks p q) (each_walks ps qs) e in
    (below_from_walk (walks_true p q a), each_true ps qs b)

each_below : (ps qs : List Queue) → AllZip QueueBelow ps qs → each_walks ps qs ≡ true
each_below [] [] h = refl
each_below [] (q ∷ qs) h = absurd h
each_below (p ∷ ps) [] h = absurd h
each_below (p ∷ ps) (q ∷ qs) (h, hs) = and_from (walks p q) (each_walks ps qs) (walks_walk p q (walk_from_below h)) (each_below ps qs hs)

abbrev pub is_below : Config → Config → Bool
is_below c d = same_numbers c.states d.states && (same_numbers c.memory d.memory && each_walks c.queues d.queues)

pub below_true : (c d : Config) → is_below c d ≡ true → LoadBelow c d
below_true c d e =
    let rest = same_numbers c.memory d.memory && each_walks c.queues d.queues in
    let (a, r) = and_parts (same_numbers c.states d.states) rest e in
    let (b, t) = and_parts (same_numbers c.memory d.memory) (each_walks c.queues d.queues) r in
    record {
      same_states = numbers_true c.states d.states a;
      same_memory = numbers_true c.memory d.memory b;
      thinned = each_true c.queues d.queues t;
    }

numbers_eq : (xs ys : List ℕ) → xs ≡ ys → same_numbers xs ys ≡ true
numbers_eq xs ys e = rw e (numbers_same ys)

pub below_is : (c d : Config) → LoadBelow c d → is_below c d ≡ true
below_is c d h =
    and_from (same_numbers c.states d.states) (same_numbers c.memory d.memory && each_walks c.queues d.queues)
    (numbers_eq c.states d.states h.same_states)
    (and_from (same_numbers c.memory d.memory) (each_walks c.queues d.queues)
    (numbers_eq c.memory d.memory h.same_memory) (each_below c.queues d.queues h.thinned))
