-- Worked examples of the rules and of the order.
use Rattle.std.specs.Prelude.{ℕ, List, [], ◌∷◌, Some, None}
use Rattle.files.specs.Program.{Program}
use Rattle.files.specs.declared.transition.Operation.TheVariants.{Read, Write}
use Rattle.machines.specs.Message.{Queue, own_of, seen_of}
use Rattle.machines.specs.Config.{Config}
use Rattle.machines.specs.Step.{Runs}
use Rattle.machines.specs.StoreBuffers.{StoreStep, store_start}
use Rattle.machines.specs.LoadBuffers.{LoadStep, load_start}
use Rattle.machines.specs.Plain.{PlainStep, plain_start}
use Rattle.machines.specs.Order.{QueueBelow}

-- each of two processes writes 1 to a variable of its own, and then reads 0 from the other's
abbrev pub crossing : Program
crossing =
    record {
      states = 3 ∷ 3 ∷ [];
      variables = 2;
      values = 2;
      transitions =
          record { process = 0; before = 0; operation = Write 0 1; after = 1 }
          ∷ record { process = 0; before = 1; operation = Read 1 0; after = 2 }
          ∷ record { process = 1; before = 0; operation = Write 1 1; after = 1 }
          ∷ record { process = 1; before = 1; operation = Read 0 0; after = 2 }
          ∷ [];
      patterns = record { states = Some 2 ∷ Some 2 ∷ None ∷ None ∷ [] } ∷ [];
    }

abbrev pub config : List ℕ → List ℕ → List Queue → Config
config q m b = record { states = q; memory = m; queues = b }

-- both read 0 while the writes are queued
abbrev pub both_queued : Config
both_queued = config (2 ∷ 2 ∷ []) (0 ∷ 0 ∷ []) ((own_of 0 1 ∷ []) ∷ (own_of 1 1 ∷ []) ∷ [])

abbrev pub StoresWait : Type 0
StoresWait = Runs (StoreStep crossing) (store_start crossing) (0 ∷ 1 ∷ 2 ∷ 3 ∷ []) both_queued

-- and then the writes reach memory
abbrev pub StoresArrive : Type 0
StoresArrive = Runs (StoreStep crossing) both_queued (84 ∷ 85 ∷ []) (config (2 ∷ 2 ∷ []) (1 ∷ 1 ∷ []) ([] ∷ [] ∷ []))

-- with no queues the second process cannot read 0
abbrev pub second_left : Config
second_left = config (2 ∷ 1 ∷ []) (1 ∷ 1 ∷ []) []

abbrev pub PlainStops : Type 0
PlainStops =
    Runs (PlainStep crossing) (plain_start crossing) (0 ∷ 1 ∷ 2 ∷ []) second_left × ((d : Config) → PlainStep crossing second_left 3 d → ⊥)

-- each process sees the 0 before the other writes; in bytes, the queues are 04 11 and 00 15
abbrev pub LoadsAhead : Type 0
LoadsAhead =
    Runs (LoadStep crossing) (load_start crossing) (65 ∷ 68 ∷ 0 ∷ 1 ∷ 2 ∷ 3 ∷ [])
    (config (2 ∷ 2 ∷ []) (1 ∷ 1 ∷ []) ((seen_of 1 0 ∷ own_of 0 1 ∷ []) ∷ (seen_of 0 0 ∷ own_of 1 1 ∷ []) ∷ []))

-- a seen message may be left out, and an own one with a newer one of its variable; the newest own one may not
pub record LeavesOut : Type 0 where
  pub seen : QueueBelow (own_of 0 1 ∷ []) (seen_of 0 1 ∷ own_of 0 1 ∷ [])
  pub older : QueueBelow (own_of 0 1 ∷ []) (own_of 0 0 ∷ own_of 0 1 ∷ [])
  pub only : QueueBelow [] (own_of 0 1 ∷ []) → ⊥
  pub newer : QueueBelow (own_of 0 0 ∷ []) (own_of 0 0 ∷ own_of 0 1 ∷ []) → ⊥
