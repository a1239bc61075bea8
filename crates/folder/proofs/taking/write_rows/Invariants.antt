use Rattle.folder.specs.Taking.{LinesAdded}
use Rattle.folder.proofs.taking.write_rows.Given as goal

abbrev pub invariant-loop-i : goal.invariant-loop-i
invariant-loop-i g l = LinesAdded (g.M.OrderedRow.kind l.machine) (g.M.Machine.rules l.machine) l.list.bytes.now l.standing l.i l.initial.memory l.memory
