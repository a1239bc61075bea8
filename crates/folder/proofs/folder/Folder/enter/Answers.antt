use Rattle.std.proofs.Common.{◌≡◌, ◌+◌, ◌-◌, ◌≤◌, length, take, drop, refl, ◌∙◌, arith}
use Rattle.folder.proofs.Adding.{part_long, read_done, row_fits, row_kept, row_stands}
use Rattle.folder.proofs.folder.Folder.enter.Goals as goal

pub returns : goal.returns
returns g c =
    let machine = c.args.self.now.machine in
    let k = g.M.OrderedRow.kind machine in
    let u = g.M.Machine.rules machine in
    let n = c.args.self.now.count in
    let m = c.args.memory.now in
    let w = k.width in
    let line = c.args.line.now in
    let held = c.in_ok-end.ensures.answer in
    let v = c.row_len-width.result in
    let wide = c.row_len-width.ensures.value in
    let at = c.in_ok-end.end in
    let row = c.read_line.new.row in
    let free = c.in_ok-check_room.ensures.0 in
    let room : at + w ≤ length m = omega (arith, row_fits w n m free, held.1.0) in
    let was = take (at + v - at) (drop at m) in
    let long : length was ≡ w = part_long at v m (omega arith) ∙ wide in
    let is = read_done k u line was row c.read_line.result c.read_line.ensures long c.in_default.ensures in
    let lr : length row ≡ w = c.read_line.auto.row ∙ long in
    record {
      machine = refl;
      rows = ((held.0, (c.in_default.ensures, free)), (row, is, row_stands w n at v m row held.1.0 wide room lr));
      behind = row_kept w n at v m row held.1.0 wide room lr;
    }
