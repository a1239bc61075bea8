-- What acts do on load buffers.
use Rattle.std.specs.Prelude.{ℕ, Bool, true, false, cond, not, ◌&&◌, List, [], ◌∷◌, Some, None, Option, ◌==◌, slice_index}
use Rattle.files.specs.declared.transition.Operation.{Operation}
use Rattle.files.specs.declared.transition.Operation.TheVariants.{Nop, Read, Write, Fence, Exchange}
use Rattle.machines.specs.Message.{Message, Queue, newest}
use Rattle.machines.specs.Step.{delete}
use Rattle.machines.specs.LoadBuffers.{LoadRule}
use Rattle.queue.specs.declared.load.LoadMessage.{LoadMessage}
use Rattle.rules.specs.declared.act.Act.{Act}
use Rattle.rules.specs.declared.act.Act.TheVariants.{Operate, Propagate, Delete, Update}
use Rattle.rules.specs.declared.effect.Change.TheVariants.{Join, Leave}
use Rattle.rules.specs.declared.effect.Effect.{Effect}
use Rattle.rules.specs.Memory.{still, exchanged, is_empty}
use Rattle.rules.specs.Operations.{Manner}
use Rattle.rules.specs.Rulebook.{Rulebook}

-- a seen message of the variable, with the value
abbrev pub is_seen : ℕ → ℕ → Message → Bool
is_seen x v m = not m.own && (m.variable == x && m.value == v)

abbrev pub seen_first : ℕ → ℕ → Queue → Bool
seen_first x v [] = false
seen_first x v (m ∷ q) = is_seen x v m

-- the newest own message of the variable has the value, or there is none, and the oldest message is a seen one of both
abbrev pub yields : Option ℕ → ℕ → ℕ → Queue → Bool
yields (Some n) x v q = n == v
yields None x v q = seen_first x v q

abbrev pub load_reads : Queue → ℕ → ℕ → Bool
load_reads q x v = yields (newest x q) x v q

abbrev pub load_operation : Operation → List ℕ → Queue → Option (Effect LoadMessage)
load_operation Nop m q = Some still
load_operation (Read x v) m q = cond (load_reads q x v) (Some still) None
load_operation (Write x v) m q = Some (record { write = Some (record { variable = x; value = v }); change = Join (record { own = true; variable = x; value = v }) })
load_operation Fence m q = cond (is_empty q) (Some still) None
load_operation (Exchange x v w) m q = cond (is_empty q) (exchanged m x v w) None

-- how operations go, where a write reaches memory and joins the queue
abbrev pub load_manner : Manner LoadMessage
load_manner =
    record { reads = λ m q x v. load_reads q x v; writes = λ x v. record { write = Some (record { variable = x; value = v }); change = Join (record { own = true; variable = x; value = v }) }; is_clear = is_empty }

-- the oldest message goes
abbrev pub deleted : Queue → Option (Effect LoadMessage)
deleted q = cond (is_empty q) None (Some (record { write = None; change = Leave }))

-- the value in memory comes as a seen message
abbrev pub propagated : ℕ → List ℕ → Effect LoadMessage
propagated x m = record { write = None; change = Join (record { own = false; variable = x; value = slice_index m x }) }

abbrev pub load_effect : Act → List ℕ → Queue → Option (Effect LoadMessage)
load_effect (Operate o) m q = load_operation o m q
load_effect (Propagate x) m q = Some (propagated x m)
load_effect Delete m q = deleted q
load_effect Update m q = None

abbrev pub load_book : Rulebook LoadMessage
load_book = record { buffered = true; effect = load_effect; emptying = delete; Rule = LoadRule }
