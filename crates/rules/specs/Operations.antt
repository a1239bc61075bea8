-- What an operation does, said once for the three machines.
use Rattle.std.specs.Prelude.{ℕ, Bool, cond, List, Some, None, Option}
use Rattle.files.specs.declared.transition.Operation.{Operation}
use Rattle.files.specs.declared.transition.Operation.TheVariants.{Nop, Read, Write, Fence, Exchange}
use Rattle.machines.specs.Message.{Queue}
use Rattle.rules.specs.declared.effect.Effect.{Effect}
use Rattle.rules.specs.Memory.{still, exchanged}

-- Where machines differ: whether a read yields a value, what a write does, and which queues let a fence or an exchange pass.
pub record Manner (M : Type 0) : Type 0 where
  pub reads : List ℕ → Queue → ℕ → ℕ → Bool
  pub writes : ℕ → ℕ → Effect M
  pub is_clear : Queue → Bool

abbrev pub operated : {M : Type 0} → Manner M → Operation → List ℕ → Queue → Option (Effect M)
operated n Nop m q = Some still
operated n (Read x v) m q = cond (n.reads m q x v) (Some still) None
operated n (Write x v) m q = Some (n.writes x v)
operated n Fence m q = cond (n.is_clear q) (Some still) None
operated n (Exchange x v w) m q = cond (n.is_clear q) (exchanged m x v w) None
