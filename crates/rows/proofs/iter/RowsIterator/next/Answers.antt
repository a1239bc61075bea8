use Rattle.std.proofs.Common.{rules, length, ap, arith}
use Rattle.rows.proofs.Turns.{no_row_left, row_taken}
use Rattle.rows.proofs.iter.RowsIterator.next.Goals as goal

pub returns-in_err-count-clause-steps : goal.returns-in_err-count-clause-steps
returns-in_err-count-clause-steps c =
    let v = c.args.self.now.left in
    let e = no_row_left v.width v.count v.bytes.now (search rules) in
    rw c.from_residual.ensures (e, e)

pub returns-clause-steps : goal.returns-clause-steps
returns-clause-steps c =
    let v = c.args.self.now.left in
    row_taken v.width v.count c.in_ok-count.count v.bytes.now _ _ (omega (arith, c.in_ok-count.ensures)) c.split_at.ensures.front c.split_at.ensures.back

pub returns-clause-goes : goal.returns-clause-goes
returns-clause-goes c =
    let v = c.args.self.now.left in
    let e = row_taken v.width v.count c.in_ok-count.count v.bytes.now _ _ (omega (arith, c.in_ok-count.ensures)) c.split_at.ensures.front c.split_at.ensures.back in
    record { on = λ _. (tt, tt, omega (arith, ap length e)); keeps = tt; rests = λ _. tt }
