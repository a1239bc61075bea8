use Rattle.std.proofs.Common.{◌≡◌, ◌-◌, ◌/◌, suc, length, take, drop, arith}
use Rattle.std.proofs.lemmas.List.{length-drop, take_all}
use Rattle.load_buffers.specs.Rows.{queue_at}
use Rattle.load_buffers.proofs.layout.Layout.queue_of.Goals as goal

pub returns : goal.returns
returns c =
    let at = c.queue_at.result in
    let row = c.args.row.now in
    let xs = drop at row in
    let whole : take (length row - at) xs ≡ xs = take_all (length row - at) xs (simp length-drop (omega arith)) in
    let many : length xs / 10 ≡ suc (c.args.self.sizes.processes - c.args.process - 1) = simp length-drop (omega arith) in
    let there : at ≡ queue_at c.args.self.sizes c.args.process = omega arith in
    rw (c.as_chunks.ensures.front, whole, many, there)
