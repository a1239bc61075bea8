use Rattle.std.proofs.Common.{◌≡◌, ◌-◌, ◌++◌, length, take, drop, ap, ◌∙◌, arith}
use Rattle.queue.proofs.Shifts.{popped_is, popped_queue}
use Rattle.queue.proofs.fifo.Queue.pop.Goals as goal

pub returns-clause-places : goal.returns-clause-places
returns-clause-places g c =
    popped_is c.args.self.now.count (c.len-n.result - 0) c.args.self.now.places.now c.advance.new.xs g.M.Message.kind.zero c.zero.result (omega arith) c.zero.ensures c.advance.ensures

pub returns-clause-queued : goal.returns-clause-queued
returns-clause-queued g c =
    let n = c.args.self.now.count in
    let xs = c.args.self.now.places.now in
    let z = g.M.Message.kind.zero in
    let k = c.len-n.result - 0 in
    let e = popped_is n k xs c.advance.new.xs z c.zero.result (omega arith) c.zero.ensures c.advance.ensures in
    let l : c.saturating_sub-self.result ≡ length (take n xs) - 1 = omega arith in
    ap (λ i. take i (c.advance.new.xs ++ drop k xs)) l ∙ ap (take (length (take n xs) - 1)) e ∙ popped_queue z n xs
