use Rattle.files.specs.Program.{program}
use Rattle.load_buffers.specs.Fronts.{Begun}
use Rattle.load_buffers.proofs.lines.fill_front.Given as goal

abbrev pub invariant-loop-i : goal.invariant-loop-i
invariant-loop-i l = Begun (program l.system) l.line l.i l.row
