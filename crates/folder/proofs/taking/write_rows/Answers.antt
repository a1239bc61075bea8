use Rattle.std.proofs.Common.{◌≡◌, ◌+◌, ◌-◌, ◌*◌, ◌≤◌, length, take, drop, sym, ◌∙◌, subst, arith}
use mathlib.Core.Bool.{false≢true}
use Rattle.machines.specs.Kind.{IsLine}
use Rattle.rows.specs.Listing.{RowOf}
use Rattle.folder.specs.Taking.{LinesAdded}
use Rattle.folder.proofs.Adding.{added_more, added_none, part_long, read_done}
use Rattle.rows.proofs.Rows.{row_end}
use Rattle.folder.proofs.taking.write_rows.Goals as goal
use Rattle.folder.proofs.taking.write_rows.Goals.{in-Some, in_default}

pub loop-i-init : goal.loop-i-init
loop-i-init g c =
    let m = c.args.machine.now in
    added_none (g.M.OrderedRow.kind m) (g.M.Machine.rules m) c.args.list.now.bytes.now c.args.standing c.args.memory.now

pub loop-i-preserved : goal.loop-i-preserved
loop-i-preserved g c =
    let k = g.M.OrderedRow.kind c.args.machine.now in
    let u = g.M.Machine.rules c.args.machine.now in
    let file = c.args.list.now.bytes.now in
    let n = c.args.standing in
    let i = c.loop-i.i in
    let v = c.row_len-width.result in
    let wide = c.row_len-width.ensures.value in
    let all = n + c.args.list.now.count in
    let m = c.args.memory.now in
    let l = c.loop-i.memory in
    elim c.match-line.branch [
      | in-Some w ↦
          let at = (n + i) * v in
          let row = w.read_line.new.row in
          let e = row_end (n + i) all v (omega arith) in
          let held = subst (λ q. all * q ≤ length m) (sym wide) c.requires.room in
          let room : at + v ≤ length l = omega (arith, e, held) in
          let was = take (at + v - at) (drop at l) in
          let long : length was ≡ k.width = part_long at v l room ∙ wide in
          let line = w.in-Some.ensures.handed.3 in
          let done = read_done k u w.in-Some.line.bytes.now was row w.read_line.result w.read_line.ensures long (subst (IsLine u) (sym line) (c.requires.lines i (omega arith))) in
          subst (LinesAdded k u file n (i + 1) m) (sym w.memory-is)
          (added_more k u file n m i v l row wide room (w.read_line.auto.row ∙ long) (subst (λ q. RowOf u q row) line done) c.loop-i.invariant)
      | in_default w ↦ absurd (false≢true (w.in_default.ensures.every c.args.list.now.right c.args.list.now.counted (omega arith)))
    ]
