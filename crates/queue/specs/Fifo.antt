-- Queues as lists of records, oldest first.
use Rattle.std.specs.Prelude.{ℕ, List, [], ◌∷◌, ◌++◌, take, drop, Some, None, Option}
use Rattle.machines.specs.Message.{Message}

-- A kind of record: the message that each stands for, and what a place holds that no message lies in.
pub record Kind (M : Type 0) : Type 0 where
  pub means : M → Message
  pub zero : M

-- the oldest
abbrev pub front : {M : Type 0} → List M → Option M
front [] = None
front (m ∷ q) = Some m

-- the oldest goes, the rest move up, and the freed place becomes z
abbrev pub advanced : {M : Type 0} → M → List M → List M
advanced z [] = []
advanced z (m ∷ q) = q ++ z ∷ []

-- the places of a queue of n messages, once its oldest has gone
abbrev pub popped : {M : Type 0} → M → ℕ → List M → List M
popped z n places = advanced z (take n places) ++ drop n places
