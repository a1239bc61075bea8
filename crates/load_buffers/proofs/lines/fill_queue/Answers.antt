use Rattle.std.proofs.Common.{arith}
use Rattle.std.proofs.lemmas.Result.{err_from_is_err_and}
use Rattle.load_buffers.specs.Reading.{queue}
use Rattle.load_buffers.proofs.Queues.{partly_all, partly_fault, partly_more, partly_none}
use Rattle.load_buffers.specs.Walks.{taken_err}
use Rattle.load_buffers.proofs.lines.fill_queue.Goals as goal

pub returns-in_err-count : goal.returns-in_err-count
returns-in_err-count c =
    let p = err_from_is_err_and c.from_residual.result c.from_residual.ensures.1 in
    rw (p.1, p.2) (taken_err (queue c.args.sizes) c.args.line.now c.args.at c.in_err-count.field-0.0 c.requires c.in_err-count.ensures)

pub loop-i-init : goal.loop-i-init
loop-i-init c = rw c.from-count.ensures (partly_none c.args.sizes c.args.line.now c.args.at c.in_ok-count.count c.in_ok-count.ensures)

pub returns-in_err-queue : goal.returns-in_err-queue
returns-in_err-queue c =
    let p = err_from_is_err_and c.from_residual-in_err-queue.result c.from_residual-in_err-queue.ensures.1 in
    rw (p.1, p.2)
    (partly_fault c.args.sizes c.args.line.now c.args.at c.from-count.result c.loop-i.i c.loop-i.queue c.loop-i.invariant
    c.in_err-queue.field-0.0 (omega arith) c.in_err-queue.ensures)

pub loop-i-preserved : goal.loop-i-preserved
loop-i-preserved c =
    partly_more c.args.sizes c.args.line.now c.args.at c.from-count.result c.loop-i.i c.loop-i.queue c.loop-i.invariant
    _ c.in_ok-queue.field-0 (omega arith) (omega arith) c.in_ok-queue.ensures

pub returns : goal.returns
returns c =
    partly_all c.args.sizes c.args.line.now c.args.at c.from-count.result c.loop-i.i c.loop-i.queue c.loop-i.invariant (omega arith)
