-- What acts do on store buffers.
use Rattle.std.specs.Prelude.{ℕ, Bool, true, cond, List, [], ◌∷◌, Some, None, Option, ◌==◌, slice_index}
use Rattle.std.specs.Option.{unwrap_or}
use Rattle.files.specs.declared.transition.Operation.{Operation}
use Rattle.files.specs.declared.transition.Operation.TheVariants.{Nop, Read, Write, Fence, Exchange}
use Rattle.machines.specs.Message.{Queue, newest}
use Rattle.machines.specs.Step.{update}
use Rattle.machines.specs.StoreBuffers.{StoreRule}
use Rattle.queue.specs.declared.store.StoreMessage.{StoreMessage}
use Rattle.rules.specs.declared.act.Act.{Act}
use Rattle.rules.specs.declared.act.Act.TheVariants.{Operate, Propagate, Delete, Update}
use Rattle.rules.specs.declared.effect.Change.TheVariants.{Join, Leave}
use Rattle.rules.specs.declared.effect.Effect.{Effect}
use Rattle.rules.specs.Memory.{still, exchanged, is_empty}
use Rattle.rules.specs.Operations.{Manner}
use Rattle.rules.specs.Rulebook.{Rulebook}

-- a read yields the newest queued store of its variable, else the value in memory
abbrev pub store_reads : List ℕ → Queue → ℕ → ℕ → Bool
store_reads m q x v = unwrap_or (newest x q) (slice_index m x) == v

abbrev pub store_operation : Operation → List ℕ → Queue → Option (Effect StoreMessage)
store_operation Nop m q = Some still
store_operation (Read x v) m q = cond (store_reads m q x v) (Some still) None
store_operation (Write x v) m q = Some (record { write = None; change = Join (record { variable = x; value = v }) })
store_operation Fence m q = cond (is_empty q) (Some still) None
store_operation (Exchange x v w) m q = cond (is_empty q) (exchanged m x v w) None

-- how operations go, where a write waits in the queue
abbrev pub store_manner : Manner StoreMessage
store_manner =
    record { reads = store_reads; writes = λ x v. record { write = None; change = Join (record { variable = x; value = v }) }; is_clear = is_empty }

-- the oldest store goes to memory; a seen message would be no store
abbrev pub carried : Queue → Option (Effect StoreMessage)
carried [] = None
carried (m ∷ q) = cond m.own (Some (record { write = Some (record { variable = m.variable; value = m.value }); change = Leave })) None

abbrev pub store_effect : Act → List ℕ → Queue → Option (Effect StoreMessage)
store_effect (Operate o) m q = store_operation o m q
store_effect (Propagate x) m q = None
store_effect Delete m q = None
store_effect Update m q = carried q

abbrev pub store_book : Rulebook StoreMessage
store_book = record { buffered = true; effect = store_effect; emptying = update; Rule = StoreRule }
