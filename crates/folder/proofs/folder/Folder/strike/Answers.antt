use Rattle.std.proofs.Common.{◌≡◌, suc, ◌+◌, ◌-◌, ◌*◌, ◌≤◌, ◌++◌, length, drop, sym, refl, ap, ◌∙◌, subst, arith}
use borrow.Rule.Slice.PartMut.{put_mid}
use Rattle.std.specs.List.{remove}
use Rattle.std.proofs.lemmas.List.{length-drop, length-take-le}
use Rattle.rows.specs.Standing.{standing, zeros}
use Rattle.rows.proofs.Rows.{row_end, standing_length}
use Rattle.folder.proofs.Struck.{rows_around, struck_behind, struck_rows}
use Rattle.folder.proofs.folder.Folder.strike.Goals as goal

pub returns : goal.returns
returns g c =
    let w = (g.M.OrderedRow.kind c.args.self.now.machine).width in
    let n = c.args.self.now.count in
    let m = c.args.memory.now in
    let i = c.args.number in
    let v = c.row_len-width.result in
    let held = c.in_ok-end.ensures.answer in
    let fits : n * w ≤ length m = subst (λ q. q * w ≤ length m) (standing_length w n m) held.0 in
    let at : c.in_ok-end.end ≡ n * v = held.1.0 ∙ ap (λ q. n * q) (sym c.row_len-width.ensures.value) in
    let e : i * v + v ≤ n * v = row_end i n v (omega arith) in
    let wide : v ≡ w = c.row_len-width.ensures.value in
    let end = c.in_ok-end.end in
    let b = n - suc i in
    let whole : n ≡ i + suc b = omega arith in
    let fewer : n - 1 ≡ i + b = omega arith in
    let around : n * w ≡ i * w + (w + b * w) = ap (λ q. q * w) whole ∙ rows_around w i b in
    let from : i * v ≡ i * w = ap (λ q. i * q) wide in
    let last = end - v in
    let size : end - (i * v + v) ≡ b * w = omega (arith, held.1.0) in
    let room : (i + suc b) * w ≤ length m = subst (λ q. q * w ≤ length m) whole fits in
    let moved = c.copy_within.new.self in
    let z = c.fill.new.self in
    let cleared : z ≡ zeros w = c.fill.ensures.after (λ _ j. j) ∙ ap (λ q. zeros q) (length-take-le (end - last) (drop last moved) (rw length-drop (omega (arith, fits, held.1.0, c.copy_within.ensures.len))) ∙ omega (arith, held.1.0)) in
    let after = put_mid last (end - last) moved z in
    let at' : last ≡ i * w + b * w = omega (arith, held.1.0) in
    record {
      machine = refl;
      rows = (
        (held.0, omega (arith, standing_length w n m)),
        ap (λ q. standing w q after) fewer ∙ struck_rows w i b m moved z (i * v) v (end - (i * v + v)) from wide size room c.copy_within.ensures.after cleared last (end - last) at' (omega arith) ∙ ap (λ q. remove (standing w q m) i) (sym whole),
      );
      behind = ap (λ q. drop (q * w) after) fewer ∙ struck_behind w i b m moved z (i * v) v (end - (i * v + v)) from wide size room c.copy_within.ensures.after cleared last (end - last) at' (omega arith) ∙ ap (λ q. zeros w ++ drop ((q + 1) * w) m) (sym fewer);
    }
