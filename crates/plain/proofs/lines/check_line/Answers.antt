use Rattle.std.proofs.Common.{arith}
use Rattle.std.proofs.lemmas.Result.{err_from_is_err_and}
use Rattle.plain.proofs.Beginnings.{faulty}
use Rattle.fronts.proofs.Systems.{known}
use Rattle.plain.proofs.lines.check_line.Goals as goal

pub returns-in_err-byte_below : goal.returns-in_err-byte_below
returns-in_err-byte_below c =
    let p = err_from_is_err_and c.from_residual.result c.from_residual.ensures.1 in
    rw (p.1, p.2)
    (faulty (known c.args.system.now) c.args.line.now c.loop-i.i c.limit.result c.in_err-byte_below.field-0.0
    c.loop-i.invariant.0 (omega arith) c.loop-i.invariant.1 c.limit.ensures.value c.in_err-byte_below.ensures)
