-- The start of a machine on the bench.
use Rattle.std.proofs.Common.{◌≡◌, ℕ, zero, suc, ◌+◌, ◌≤◌, true, cond, List, [], ◌∷◌, ◌++◌, map, length, get_or, take, drop, replicate, Some, None, refl, ap, ◌∙◌, arith}
use Rattle.std.specs.List.{range_with_len}
use Rattle.std.proofs.lemmas.List.{take-replicate, length-replicate}
use Rattle.std.proofs.lemmas.Bool.Decides.{nat_tests}
use Rattle.files.specs.Program.{Program}
use Rattle.files.specs.Sizes.{right_sizes}
use Rattle.machines.specs.Message.{Queue}
use Rattle.machines.specs.Config.{start_of}
use Rattle.queue.specs.Fifo.{Kind}
use Rattle.rules.specs.Rulebook.{Rulebook}
use Rattle.bench.specs.Table.{Table, queue_of, queues, config_of, part, needed}
use Rattle.bench.specs.Play.{begun, started, done, unless}
use Rattle.bench.specs.declared.fault.BenchFault.TheVariants.{Short}
use Rattle.std.proofs.lemmas.Bool.{le-ltb}

pub in_range : (states : List ℕ) (variables values : ℕ) → right_sizes states variables values ≡ true → (length states ≤ 4) × (variables ≤ 4)
in_range states variables values h = (grind (arith, nat_tests), grind (arith, nat_tests))

zeros : (n p : ℕ) → ◌≡◌ {A = ℕ} (get_or (replicate n 0) p 0) 0
zeros zero p = refl
zeros (suc n) zero = refl
zeros (suc n) (suc p) = zeros n p

all_empty : (f : ℕ → Queue) → ((p : ℕ) → f p ≡ []) → (a n : ℕ) → map f (range_with_len a n) ≡ replicate n []
all_empty f h a zero = refl
all_empty f h a (suc n) = ap (λ q. q ∷ map f (range_with_len (a + 1) n)) (h a) ∙ ap (λ l. [] ∷ l) (all_empty f h (a + 1) n)

-- a table with every state, value and length 0
pub start_is : {M : Type 0} (k : Kind M) (u : Rulebook M) (s : Program) (t : Table M) → t.states ≡ replicate (length s.states) 0 → t.memory ≡ replicate s.variables 0 → t.lengths ≡ replicate (length s.states) 0 → config_of k u t ≡ start_of s (queues u (length s.states))
start_is k u s t a b c =
    let empty : (p : ℕ) → queue_of k u t p ≡ [] = λ p. ap (λ l. map k.means (take (get_or l p 0) (part u p t.records))) c ∙ ap (λ n. map k.means (take n (part u p t.records))) (zeros (length s.states) p) in
    let zs : List ℕ = replicate (length s.states) 0 in
    ap (λ i. record { states = i; memory = t.memory; queues = map (queue_of k u t) (range_with_len 0 (queues u (length i))) }) a
    ∙ ap (λ i. record { states = zs; memory = i; queues = map (queue_of k u t) (range_with_len 0 (queues u (length zs))) }) b
    ∙ ap (λ i. record { states = zs; memory = replicate s.variables 0; queues = i }) (all_empty (queue_of k u t) empty 0 (queues u (length zs)) ∙ ap (λ i. replicate (queues u i) []) (length-replicate {A = ℕ} (length s.states) 0))

-- the front of four zeros
pub zeros_front : (n : ℕ) → n ≤ 4 → ◌≡◌ {A = List ℕ} (take n (0 ∷ 0 ∷ 0 ∷ 0 ∷ [])) (replicate n 0)
zeros_front n h = take-replicate n 4 0 h

-- the records whose first places have been made zero
pub cleared_front : {X : Type 0} (n m : ℕ) (z : X) (xs ys : List X) → n ≡ m → length (take n xs) ≡ n → ys ≡ replicate (length (take n xs)) z → ys ++ drop n xs ≡ replicate m z ++ drop m xs
cleared_front n m z xs ys e l h =
    ap (λ i. i ++ drop n xs) (h ∙ ap (λ i. replicate i z) l) ∙ ap (λ i. replicate i z ++ drop i xs) e

pub begun_done : {M : Type 0} (k : Kind M) (u : Rulebook M) (s : Program) (t : Table M) → needed u s ≤ length t.records → begun k u s t ≡ done (started k u s t)
begun_done k u s t h = ap (λ b. unless (cond b (Some (Short (needed u s))) None) t (done (started k u s t))) (le-ltb (length t.records) (needed u s) h)
