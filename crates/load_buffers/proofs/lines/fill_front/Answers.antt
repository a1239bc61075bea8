use Rattle.std.proofs.Common.{arith}
use Rattle.std.proofs.lemmas.Result.{err_from_is_err_and}
use Rattle.files.specs.Program.{program}
use Rattle.load_buffers.specs.Fronts.{begun_all, begun_fault, begun_more}
use Rattle.load_buffers.proofs.lines.fill_front.Goals as goal

pub returns-in_err-row : goal.returns-in_err-row
returns-in_err-row c =
    let p = err_from_is_err_and c.from_residual.result c.from_residual.ensures.1 in
    let s = program c.args.system.now in
    rw (p.1, p.2) (begun_fault s c.args.line.now c.loop-i.i c.loop-i.row c.loop-i.invariant c.limit.result (omega arith) c.limit.ensures.value c.in_err-row.field-0.0 c.in_err-row.ensures)

pub loop-i-preserved : goal.loop-i-preserved
loop-i-preserved c =
    begun_more (program c.args.system.now) c.args.line.now c.loop-i.i c.loop-i.row c.loop-i.invariant c.limit.result (omega arith) c.limit.ensures.value c.in_ok-row.field-0 (omega arith) c.in_ok-row.ensures

pub returns : goal.returns
returns c = begun_all (program c.args.system.now) c.args.line.now c.loop-i.i c.loop-i.row c.loop-i.invariant (omega arith)
