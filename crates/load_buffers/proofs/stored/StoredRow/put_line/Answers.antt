use Rattle.std.proofs.Common.{◌≡◌, suc, ◌≤◌, length, get_or, take, refl, sym, ap, ◌∙◌, arith}
use Rattle.std.proofs.lemmas.List.{length-append, length-drop, length-take, length-take-le}
use Rattle.files.specs.Program.{program}
use Rattle.load_buffers.proofs.Parts.{sizes_are}
use Rattle.load_buffers.proofs.Puts.{put_all, put_more}
use Rattle.load_buffers.proofs.stored.StoredRow.put_line.Goals as goal

pub loop-p-preserved : goal.loop-p-preserved
loop-p-preserved c =
    let s = program c.args.self.system.now in
    let z = sizes_are s c.sizes-p-end.result c.sizes-p-end.ensures.value in
    let q = c.queue.result.bytes.now in
    let used = c.copy_from_slice-in-loop-p.new.self in
    let a : used ≡ take (suc (get_or q 0 0)) q = c.copy_from_slice-in-loop-p.ensures.after ∙ c.in_use-used.ensures.value in
    let m : length used ≡ suc (get_or q 0 0) = ap length c.copy_from_slice-in-loop-p.ensures.after ∙ c.in_use-used.ensures.long in (
      simp (length-append, length-take, length-drop) (omega (arith, m)),
      put_more s c.args.self.bytes.now c.loop-p.end c.loop-p.p c.loop-p.line c.loop-p.invariant.1
          q used (get_or q 0 0) _ _ c.queue.ensures refl c.queue.result.few a m (omega (arith, c.in_use-used.ensures.long)) (omega (arith, c.loop-p.invariant.1.short)),
    )

pub returns : goal.returns
returns c =
    let s = program c.args.self.system.now in
    let z = sizes_are s c.sizes-p-end.result c.sizes-p-end.ensures.value in
    let all = put_all s c.args.self.bytes.now c.loop-p.end c.loop-p.p c.loop-p.line c.loop-p.invariant.1 (omega arith) in
    let small : c.loop-p.end ≤ 44 = omega (arith, c.loop-p.invariant.1.short) in
    record { length = sym (length-take-le c.loop-p.end c.loop-p.line (omega arith)) ∙ ap length all; small = small; line = all }
