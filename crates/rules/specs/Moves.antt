-- Moves with their processes, and the numbers by which they are called.
use Rattle.std.specs.Prelude.{ℕ, ◌-◌, ◌/◌, ◌%◌, cond, Ok, Err, Result, nat_lt}
use Rattle.machines.specs.Step.{propagate, delete, update, number_of}
use Rattle.rules.specs.declared.moves.Move.{Move}
use Rattle.rules.specs.declared.moves.Move.TheVariants.{Transition, Propagate, Delete, Update}
use Rattle.rules.specs.declared.moves.NoMove.{NoMove}

abbrev pub number : Move → ℕ
number (Transition t) = t
number (Propagate p x) = number_of p (propagate x)
number (Delete p) = number_of p delete
number (Update p) = number_of p update

-- transitions from 0, propagations from 64, four a process, deletions from 80 and updates from 84
abbrev pub move_of : ℕ → Result Move NoMove
move_of n =
    cond (nat_lt n 64) (Ok (Transition n))
    (cond (nat_lt n 80) (Ok (Propagate ((n - 64) / 4) ((n - 64) % 4)))
    (cond (nat_lt n 84) (Ok (Delete (n - 80)))
    (cond (nat_lt n 88) (Ok (Update (n - 84))) (Err (record { 0 = n })))))
