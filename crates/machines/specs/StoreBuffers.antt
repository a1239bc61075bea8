-- The store-buffer machine: a write waits in the queue of its process until an update carries it into memory.
use Rattle.std.specs.Prelude.{◌≡◌, ℕ, List, [], ◌∷◌, ◌++◌, length, Some, None, slice_index, slice_set}
use Rattle.files.specs.Program.{Program}
use Rattle.files.specs.declared.transition.Operation.TheVariants.{Nop, Read, Write, Fence, Exchange}
use Rattle.machines.specs.Message.{Queue, own_of, newest}
use Rattle.machines.specs.Config.{Config, View, view, BadStates, start_of}
use Rattle.machines.specs.Step.{Move, transition, update, Leads, Step}

-- how process p moves
pub data StoreRule (s : Program) (p : ℕ) : View → Move → View → Type 0 where
  -- a nop only changes the state
  nops : {mem : List ℕ} {b : Queue} {t q q' : ℕ}
      → Leads s t p q Nop q'
      → StoreRule s p (view mem q b) (transition t) (view mem q' b)
  -- a write joins the queue
  writes : {mem : List ℕ} {b : Queue} {t q q' x v : ℕ}
      → Leads s t p q (Write x v) q'
      → StoreRule s p (view mem q b) (transition t) (view mem q' (b ++ own_of x v ∷ []))
  -- an update carries the oldest store into memory
  updates : {mem : List ℕ} {b : Queue} {q x v : ℕ}
      → StoreRule s p (view mem q (own_of x v ∷ b)) update (view (slice_set mem x v) q b)
  -- a read yields the newest queued store of its variable
  reads_own : {mem : List ℕ} {b : Queue} {t q q' x v : ℕ}
      → Leads s t p q (Read x v) q'
      → newest x b ≡ Some v
      → StoreRule s p (view mem q b) (transition t) (view mem q' b)
  -- else the value in memory
  reads_memory : {mem : List ℕ} {b : Queue} {t q q' x v : ℕ}
      → Leads s t p q (Read x v) q'
      → newest x b ≡ None
      → slice_index mem x ≡ v
      → StoreRule s p (view mem q b) (transition t) (view mem q' b)
  -- a fence needs an empty queue
  fences : {mem : List ℕ} {t q q' : ℕ}
      → Leads s t p q Fence q'
      → StoreRule s p (view mem q []) (transition t) (view mem q' [])
  -- an exchange needs an empty queue and its first value in memory, and puts its second there
  exchanges : {mem : List ℕ} {t q q' x v w : ℕ}
      → Leads s t p q (Exchange x v w) q'
      → slice_index mem x ≡ v
      → StoreRule s p (view mem q []) (transition t) (view (slice_set mem x w) q' [])

abbrev pub StoreStep : Program → Config → ℕ → Config → Type 0
StoreStep s = Step s (StoreRule s)

abbrev pub store_start : Program → Config
store_start s = start_of s (length s.states)

-- the states match a pattern, with anything still queued
abbrev pub StoreBad : Program → Config → Type 0
StoreBad s c = BadStates s c.states
