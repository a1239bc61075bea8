-- What the rules of the machines share.
use Rattle.std.specs.Prelude.{ℕ, Bool, true, false, cond, List, [], ◌∷◌, Some, None, Option, ◌==◌, slice_index}
use Rattle.machines.specs.Message.{Queue}
use Rattle.rules.specs.declared.effect.Change.TheVariants.{Keep}
use Rattle.rules.specs.declared.effect.Effect.{Effect}

-- nothing but the state changes
abbrev pub still : {M : Type 0} → Effect M
still = record { write = None; change = Keep }

-- memory has the first value, and gets the second
abbrev pub exchanged : {M : Type 0} → List ℕ → ℕ → ℕ → ℕ → Option (Effect M)
exchanged m x v w = cond (slice_index m x == v) (Some (record { write = Some (record { variable = x; value = w }); change = Keep })) None

abbrev pub is_empty : Queue → Bool
is_empty [] = true
is_empty (m ∷ q) = false
