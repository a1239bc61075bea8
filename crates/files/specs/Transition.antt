-- Section two of a system file: what seven bytes say.
use Rattle.std.specs.Prelude.{ℕ, Bool, true, cond, ◌&&◌, List, length, Some, None, Option, ◌==◌, nat_lt, slice_index}
use Rattle.std.specs.Option.{option_map}
use Rattle.files.specs.Pieces.{checked}
use Rattle.files.specs.declared.transition.Operation.{Operation}
use Rattle.files.specs.declared.transition.Operation.TheVariants.{Nop, Read, Write, Fence, Exchange}
use Rattle.files.specs.declared.transition.Transition.{Transition}

abbrev pub unused : ℕ → ℕ → ℕ → Bool
unused v a b = v == 0 && (a == 0 && b == 0)

-- the operation of a code, a variable and two values: the code is known, and fields that it does not use are 0
abbrev pub operation_of : ℕ → ℕ → ℕ → ℕ → Option Operation
operation_of code v a b =
    cond (code == 0 && unused v a b) (Some Nop)
    (cond (code == 1 && b == 0) (Some (Read v a))
    (cond (code == 2 && b == 0) (Some (Write v a))
    (cond (code == 3 && unused v a b) (Some Fence)
    (cond (code == 4) (Some (Exchange v a b)) None))))

-- whether variable and values are among the system's
abbrev pub operation_fits : ℕ → ℕ → Operation → Bool
operation_fits variables values Nop = true
operation_fits variables values (Read v a) = nat_lt v variables && nat_lt a values
operation_fits variables values (Write v a) = nat_lt v variables && nat_lt a values
operation_fits variables values Fence = true
operation_fits variables values (Exchange v a b) = nat_lt v variables && (nat_lt a values && nat_lt b values)

-- whether process, states, variable and values are among the system's, by its state counts, variables and values
abbrev pub is_drawn : List ℕ → ℕ → ℕ → Transition → Bool
is_drawn states variables values t =
    nat_lt t.process (length states) && (nat_lt t.before (slice_index states t.process) && (nat_lt t.after (slice_index states t.process) && operation_fits variables values t.operation))

-- the transition that is written: process, state before, code, variable, two values and state after
abbrev pub written : List ℕ → Option Transition
written seven =
    option_map (λ o. record { process = slice_index seven 0; before = slice_index seven 1; operation = o; after = slice_index seven 6 }) (operation_of (slice_index seven 2) (slice_index seven 3) (slice_index seven 4) (slice_index seven 5))

abbrev pub transition_of : List ℕ → ℕ → ℕ → List ℕ → Option Transition
transition_of states variables values seven = checked (is_drawn states variables values) (written seven)
