use Rattle.std.proofs.Common.{◌*◌, take, drop, sym, ap, ◌∙◌, arith}
use Rattle.rows.proofs.Rows.{standing_at, standing_length}
use Rattle.rows.proofs.lines.Lines.row.Goals as goal

pub returns-then-number-self : goal.returns-then-number-self
returns-then-number-self c =
    let v = c.args.self.now in
    let n = standing_length v.width v.count v.bytes.now in
    omega arith

pub returns : goal.returns
returns c =
    let v = c.args.self.now in
    let from = c.args.number * v.width in
    let n = standing_length v.width v.count v.bytes.now in
    (omega arith, ap (λ w. take w (drop from v.bytes.now)) (omega arith) ∙ sym (standing_at v.width v.count v.bytes.now c.args.number (omega arith)))
