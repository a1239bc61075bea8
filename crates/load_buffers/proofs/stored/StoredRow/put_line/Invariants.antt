use Rattle.std.proofs.Common.{◌≡◌, length}
use Rattle.files.specs.Program.{program}
use Rattle.load_buffers.proofs.Puts.{Put}
use Rattle.load_buffers.proofs.stored.StoredRow.put_line.Given as goal

abbrev pub invariant-loop-p : goal.invariant-loop-p
invariant-loop-p l = (length l.line ≡ 44) × Put (program l.self.system.now) l.self.bytes.now l.end l.p l.line
