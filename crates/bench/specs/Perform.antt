-- What one process does to memory, and to the places of its queue.
use Rattle.std.specs.Prelude.{◌≡◌, ℕ, ◌+◌, ◌-◌, Bool, true, cond, List, map, length, take, Some, None, Ok, Err, Option, Result, nat_lt, slice_set}
use Rattle.queue.specs.Fifo.{Kind, popped}
use Rattle.rules.specs.declared.act.Act.{Act}
use Rattle.rules.specs.declared.effect.Change.{Change}
use Rattle.rules.specs.declared.effect.Change.TheVariants.{Keep, Join, Leave}
use Rattle.rules.specs.declared.effect.Effect.{Effect}
use Rattle.bench.specs.declared.fault.BenchFault.{BenchFault}
use Rattle.bench.specs.declared.fault.BenchFault.TheVariants.{Impossible as NotPossible, Full as Ninth}
use Rattle.bench.specs.declared.perform.Hindrance.{Hindrance}
use Rattle.bench.specs.declared.perform.Hindrance.TheVariants.{Impossible, Full}
use Rattle.rules.specs.Rulebook.{Rulebook, written}

-- whether a queue of n messages has a place for the change
abbrev pub has_place : {M : Type 0} → Change M → ℕ → List M → Bool
has_place Keep n xs = true
has_place (Join m) n xs = nat_lt n (length xs)
has_place Leave n xs = true

-- the places of a queue of n messages after the change
abbrev pub places_after : {M : Type 0} → M → Change M → ℕ → List M → List M
places_after z Keep n xs = xs
places_after z (Join m) n xs = slice_set xs n m
places_after z Leave n xs = popped z n xs

-- how many messages there are then
abbrev pub length_after : {M : Type 0} → Change M → ℕ → List M → ℕ
length_after Keep n xs = n
length_after (Join m) n xs = n + 1
length_after Leave n xs = length (take n xs) - 1

-- length, memory and places afterwards
pub record Sight (M : Type 0) : Type 0 where
  pub count : ℕ
  pub memory : List ℕ
  pub places : List M

abbrev pub seen : {M : Type 0} → M → Effect M → ℕ → List ℕ → List M → Sight M
seen z e n m xs = record { count = length_after e.change n xs; memory = written e.write m; places = places_after z e.change n xs }

abbrev pub by_effect : {M : Type 0} → M → Option (Effect M) → ℕ → List ℕ → List M → Result (Sight M) Hindrance
by_effect z None n m xs = Err Impossible
by_effect z (Some e) n m xs = cond (has_place e.change n xs) (Ok (seen z e n m xs)) (Err Full)

abbrev pub performed : {M : Type 0} → Kind M → Rulebook M → Act → ℕ → List ℕ → List M → Result (Sight M) Hindrance
performed k u a n m xs = by_effect k.zero (u.effect a m (map k.means (take n xs))) n m xs

abbrev pub Did : {M : Type 0} → Result (Sight M) Hindrance → List ℕ → List M → Result ℕ Hindrance → List ℕ → List M → Type 0
Did (Ok v) m xs r m' xs' = (r ≡ Ok v.count) × (m' ≡ v.memory) × (xs' ≡ v.places)
Did (Err h) m xs r m' xs' = (r ≡ Err h) × (m' ≡ m) × (xs' ≡ xs)

-- what the bench says of move n of process p
abbrev pub fault_of : ℕ → ℕ → Hindrance → BenchFault
fault_of p n Impossible = NotPossible n
fault_of p n Full = Ninth p
