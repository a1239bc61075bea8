use Rattle.load_buffers.proofs.Queues.{Partly}
use Rattle.load_buffers.proofs.lines.fill_queue.Given as goal

abbrev pub invariant-loop-i : goal.invariant-loop-i
invariant-loop-i l = Partly l.sizes l.line l.at l.count l.i l.queue
