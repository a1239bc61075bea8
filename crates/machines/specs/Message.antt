-- Messages, and the queues that hold them, oldest first.
use Rattle.std.specs.Prelude.{ℕ, Bool, true, false, cond, ◌&&◌, List, [], ◌∷◌, Some, None, Option, ◌==◌}
use Rattle.std.specs.Option.{option_or}

-- A message is own, if the process wrote it, or seen, if it was propagated from memory. A pending store is an own message.
pub record Message : Type 0 where
  pub own : Bool
  pub variable : ℕ
  pub value : ℕ

abbrev pub Queue : Type 0
Queue = List Message

abbrev pub own_of : ℕ → ℕ → Message
own_of x v = record { own = true; variable = x; value = v }

abbrev pub seen_of : ℕ → ℕ → Message
seen_of x v = record { own = false; variable = x; value = v }

-- the value, if the message is an own one of x
abbrev pub tells : ℕ → Message → Option ℕ
tells x m = cond (m.own && m.variable == x) (Some m.value) None

-- the value of the newest own message of x, if there is one
abbrev pub newest : ℕ → Queue → Option ℕ
newest x [] = None
newest x (m ∷ q) = option_or (newest x q) (tells x m)
