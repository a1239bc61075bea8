use Rattle.std.proofs.Common.{◌≡◌, ◌+◌, ◌*◌, ◌≤◌, length, arith}
use Rattle.std.proofs.lemmas.List.{length-drop, length-take}
use Rattle.std.proofs.lemmas.Result.{err_from_is_err_and}
use Rattle.files.specs.Program.{program}
use Rattle.fronts.specs.Fronts.{front_len}
use Rattle.load_buffers.proofs.Filled.{filled_all, filled_fault, filled_more, filled_over}
use Rattle.load_buffers.proofs.Parts.{sizes_are}
use Rattle.load_buffers.proofs.lines.fill_row.Goals as goal

pub returns-in_err-end : goal.returns-in_err-end
returns-in_err-end c =
    let p = err_from_is_err_and c.from_residual-in_err-end.result c.from_residual-in_err-end.ensures.1 in
    let s = program c.args.system.now in
    let v = c.of-layout.ensures in
    let z = sizes_are s c.of-layout.result.sizes v in
    let f = filled_fault s c.args.line.now c.loop-p.row c.loop-p.end c.loop-p.p c.loop-p.invariant c.in_err-end.field-0.0 (omega arith) (rw v at c.in_err-end.ensures) in
    rw (p.1, p.2) f

pub loop-p-preserved : goal.loop-p-preserved
loop-p-preserved c =
    let s = program c.args.system.now in
    let v = c.of-layout.ensures in
    let z = sizes_are s c.of-layout.result.sizes v in
    let at : c.queue_at-at.result ≡ front_len s + 10 * c.loop-p.p = omega arith in
    let long : c.queue_at-at.result + 10 ≤ length c.loop-p.row = omega arith in
    let ten : length c.fill_part.new.part ≡ 10 = omega (arith, simp (length-take, length-drop) at c.fill_part.auto.part) in
    filled_more s c.args.line.now c.loop-p.row c.loop-p.end c.loop-p.p c.loop-p.invariant
    c.queue_at-at.result _ c.in_ok-end.end c.fill_part.new.part at (omega arith) ten (rw v at c.in_ok-end.ensures)

pub returns-then-end-line : goal.returns-then-end-line
returns-then-end-line c =
    let s = program c.args.system.now in
    let z = sizes_are s c.of-layout.result.sizes c.of-layout.ensures in
    filled_over s c.args.line.now c.loop-p.row c.loop-p.end c.loop-p.p c.loop-p.invariant (omega arith) (omega arith)

pub returns : goal.returns
returns c =
    let s = program c.args.system.now in
    let z = sizes_are s c.of-layout.result.sizes c.of-layout.ensures in
    filled_all s c.args.line.now c.loop-p.row c.loop-p.end c.loop-p.p c.loop-p.invariant (omega arith) (omega arith) (omega arith)
