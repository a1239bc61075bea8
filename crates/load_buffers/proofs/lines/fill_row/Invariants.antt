use Rattle.files.specs.Program.{program}
use Rattle.load_buffers.proofs.Filled.{Filled}
use Rattle.load_buffers.proofs.lines.fill_row.Given as goal

abbrev pub invariant-loop-p : goal.invariant-loop-p
invariant-loop-p l = Filled (program l.system) l.line l.end l.p l.row
