-- The sizes and the transitions of a program that is known.
use Rattle.std.proofs.Common.{get_or}
use Rattle.std.proofs.lemmas.Option.{slice_get-get_or}
use Rattle.files.specs.Program.{Program, Ranges, sizes_of}
use Rattle.machines.specs.Predecessors.{AllDrawn}
use Rattle.fronts.proofs.Systems.{Known}

pub ranges : {s : Program} → Known s → Ranges (sizes_of s)
ranges k =
    record { processes = k.processes; variables = k.variables; values = k.values; transitions = k.transitions; patterns = k.patterns }

pub drawn : {s : Program} → Known s → AllDrawn s
drawn {s} k t d h = k.drawn t (get_or s.transitions t d) (slice_get-get_or s.transitions t d h)
