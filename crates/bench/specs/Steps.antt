-- What a move by hand has to do with the steps of the machine.
use Rattle.std.specs.Prelude.{◌≡◌, ℕ, ◌<◌, [], length, Ok, Err, Result, slice_index_or}
use Rattle.files.specs.Program.{Program}
use Rattle.machines.specs.Config.{Config}
use Rattle.machines.specs.Step.{Step}
use Rattle.queue.specs.Fifo.{Kind}
use Rattle.bench.specs.declared.fault.BenchFault.{BenchFault}
use Rattle.bench.specs.declared.fault.BenchFault.TheVariants.{Short, Wrong, Unreadable, Impossible, Full}
use Rattle.rules.specs.Rulebook.{Rulebook, room}
use Rattle.bench.specs.Table.{Table, config_of}

-- the steps of the machine
abbrev pub StepOf : {M : Type 0} → Rulebook M → Program → Config → ℕ → Config → Type 0
StepOf u s = Step s (u.Rule s)

-- A move that was made is a step of the machine, and there is no other step by that move. One that is not possible is no step
-- of the machine, and one that is turned down for want of a place is, but puts more messages into a queue than there is room for.
abbrev pub Stepped : {M : Type 0} → Kind M → Rulebook M → Program → Table M → ℕ → Result (Unit {0}) BenchFault → Table M → Type 0
Stepped k u s t n (Ok x) t' =
    StepOf u s (config_of k u t) n (config_of k u t') × ((d : Config) → StepOf u s (config_of k u t) n d → d ≡ config_of k u t')
Stepped k u s t n (Err (Impossible m)) t' = (d : Config) → StepOf u s (config_of k u t) n d → ⊥
Stepped k u s t n (Err (Full p)) t' = (d : Config) × (StepOf u s (config_of k u t) n d × (room u < length (slice_index_or d.queues p [])))
Stepped k u s t n (Err (Short m)) t' = Unit {0}
Stepped k u s t n (Err (Wrong m)) t' = Unit {0}
Stepped k u s t n (Err (Unreadable m)) t' = ⊥
