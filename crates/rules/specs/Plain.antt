-- What acts do on the plain machine, which has no queues.
use Rattle.std.specs.Prelude.{ℕ, true, false, cond, List, Some, None, Option, ◌==◌, slice_index}
use Rattle.files.specs.declared.transition.Operation.{Operation}
use Rattle.files.specs.declared.transition.Operation.TheVariants.{Nop, Read, Write, Fence, Exchange}
use Rattle.machines.specs.Message.{Queue}
use Rattle.machines.specs.Step.{delete}
use Rattle.machines.specs.Plain.{PlainRule}
use Rattle.queue.specs.declared.load.LoadMessage.{LoadMessage}
use Rattle.rules.specs.declared.act.Act.{Act}
use Rattle.rules.specs.declared.act.Act.TheVariants.{Operate, Propagate, Delete, Update}
use Rattle.rules.specs.declared.effect.Change.TheVariants.{Keep}
use Rattle.rules.specs.declared.effect.Effect.{Effect}
use Rattle.rules.specs.Memory.{still, exchanged}
use Rattle.rules.specs.Operations.{Manner}
use Rattle.rules.specs.Rulebook.{Rulebook}

abbrev pub plain_operation : Operation → List ℕ → Option (Effect LoadMessage)
plain_operation Nop m = Some still
plain_operation (Read x v) m = cond (slice_index m x == v) (Some still) None
plain_operation (Write x v) m = Some (record { write = Some (record { variable = x; value = v }); change = Keep })
plain_operation Fence m = Some still
plain_operation (Exchange x v w) m = exchanged m x v w

-- how operations go, where no message ever waits
abbrev pub plain_manner : Manner LoadMessage
plain_manner =
    record { reads = λ m q x v. slice_index m x == v; writes = λ x v. record { write = Some (record { variable = x; value = v }); change = Keep }; is_clear = λ q. true }

abbrev pub plain_effect : Act → List ℕ → Queue → Option (Effect LoadMessage)
plain_effect (Operate o) m q = plain_operation o m
plain_effect (Propagate x) m q = None
plain_effect Delete m q = None
plain_effect Update m q = None

-- no message is ever there to be taken
abbrev pub plain_book : Rulebook LoadMessage
plain_book = record { buffered = false; effect = plain_effect; emptying = delete; Rule = PlainRule }
