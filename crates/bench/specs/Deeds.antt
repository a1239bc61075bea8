-- The deed that a move's number stands for, where processes are in these states.
use Rattle.std.specs.Prelude.{ℕ, ◌-◌, ◌/◌, ◌%◌, cond, List, length, Some, None, Option, ◌==◌, nat_lt, slice_index}
use Rattle.std.specs.List.{slice_get}
use Rattle.files.specs.Program.{Program}
use Rattle.files.specs.declared.transition.Transition.{Transition}
use Rattle.rules.specs.declared.act.Act.{Act}
use Rattle.rules.specs.declared.act.Act.TheVariants.{Operate, Propagate, Delete, Update}
use Rattle.rules.specs.declared.act.Deed.{Deed}
use Rattle.rules.specs.declared.moves.Move.{Move}
use Rattle.rules.specs.declared.moves.Move.TheVariants.{Transition as TransitionMove, Propagate as PropagateMove, Delete as DeleteMove, Update as UpdateMove}

-- a transition's operation, where its process is in the state before
abbrev pub by_transition : List ℕ → Transition → Option Deed
by_transition states t =
    cond (nat_lt t.process (length states))
    (cond (slice_index states t.process == t.before) (Some (record { process = t.process; act = Operate t.operation; state = t.after })) None)
    None

abbrev pub by_found : List ℕ → Option Transition → Option Deed
by_found states None = None
by_found states (Some t) = by_transition states t

-- an act that leaves the process in its state
abbrev pub staying : List ℕ → ℕ → Act → Option Deed
staying states p a = cond (nat_lt p (length states)) (Some (record { process = p; act = a; state = slice_index states p })) None

-- transitions from 0, propagations from 64, four a process, deletions from 80 and updates from 84
abbrev pub deed_of : Program → List ℕ → ℕ → Option Deed
deed_of s states n =
    cond (nat_lt n 64) (by_found states (slice_get s.transitions n))
    (cond (nat_lt n 80) (cond (nat_lt ((n - 64) % 4) s.variables) (staying states ((n - 64) / 4) (Propagate ((n - 64) % 4))) None)
    (cond (nat_lt n 84) (staying states (n - 80) Delete)
    (cond (nat_lt n 88) (staying states (n - 84) Update) None)))

-- the same, by the move
abbrev pub by_move : Program → List ℕ → Move → Option Deed
by_move s states (TransitionMove t) = by_found states (slice_get s.transitions t)
by_move s states (PropagateMove p x) = cond (nat_lt x s.variables) (staying states p (Propagate x)) None
by_move s states (DeleteMove p) = staying states p Delete
by_move s states (UpdateMove p) = staying states p Update
