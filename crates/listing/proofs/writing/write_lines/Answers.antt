use Rattle.std.proofs.Common.{◌≡◌, ◌-◌, ◌≤◌, length, drop, sym, refl, ap, ◌∙◌, subst, arith}
use borrow.Rule.Slice.PartMut.{put_mid}
use Rattle.std.proofs.lemmas.List.{length-drop, length-take, length_push}
use Rattle.rows.proofs.Turns.{row_turn, rows_end}
use Rattle.listing.specs.Laid.{first_lines, laid, text_of}
use Rattle.listing.proofs.Laid.{laid_more, laid_none, laid_rest}
use Rattle.listing.proofs.Growing.{length_more, lines_all, text_fits, text_more}
use Rattle.listing.proofs.writing.write_lines.Goals as goal

pub loop-row-init : goal.loop-row-init
loop-row-init g c = (omega arith, omega arith, sym (laid_none c.args.start c.args.place.now))

pub slice_bounds-put_line-count : goal.slice_bounds-put_line-count
slice_bounds-put_line-count g c =
    let u = g.M.Machine.rules c.args.lines.now.machine in
    let ls = c.args.lines.now.rows in
    let here = row_turn ls c.into_iter-row-iterator.result c.loop-row.row-iterator c.next.new.self c.loop-row.yielded c.next.result (cc) c.loop-row.yielded_by c.next.ensures.steps c.in-Some.row c.in-Some.is in
    let fits = text_fits u ls (length c.loop-row.yielded) c.in-Some.row.now here.0 here.1 in
    omega arith

pub slice_bounds-put_line-start : goal.slice_bounds-put_line-start
slice_bounds-put_line-start g c =
    let u = g.M.Machine.rules c.args.lines.now.machine in
    let ls = c.args.lines.now.rows in
    let here = row_turn ls c.into_iter-row-iterator.result c.loop-row.row-iterator c.next.new.self c.loop-row.yielded c.next.result (cc) c.loop-row.yielded_by c.next.ensures.steps c.in-Some.row c.in-Some.is in
    let fits = text_fits u ls (length c.loop-row.yielded) c.in-Some.row.now here.0 here.1 in
    omega arith

pub put_line-at-requires : goal.put_line-at-requires
put_line-at-requires g c =
    let u = g.M.Machine.rules c.args.lines.now.machine in
    let ls = c.args.lines.now.rows in
    let here = row_turn ls c.into_iter-row-iterator.result c.loop-row.row-iterator c.next.new.self c.loop-row.yielded c.next.result (cc) c.loop-row.yielded_by c.next.ensures.steps c.in-Some.row c.in-Some.is in
    let fits = text_fits u ls (length c.loop-row.yielded) c.in-Some.row.now here.0 here.1 in
    let p = c.loop-row.place in
    let rest : length (drop c.loop-row.at p) ≡ length p - c.loop-row.at = length-drop c.loop-row.at p in
    record {
      stored = subst u.Storable (sym here.1) (c.rows-row-items.ensures.stored _ here.0);
      room = rw length-take (omega arith);
    }

pub overflow_add-at : goal.overflow_add-at
overflow_add-at g c =
    let u = g.M.Machine.rules c.args.lines.now.machine in
    let ls = c.args.lines.now.rows in
    let here = row_turn ls c.into_iter-row-iterator.result c.loop-row.row-iterator c.next.new.self c.loop-row.yielded c.next.result (cc) c.loop-row.yielded_by c.next.ensures.steps c.in-Some.row c.in-Some.is in
    let fits = text_fits u ls (length c.loop-row.yielded) c.in-Some.row.now here.0 here.1 in
    omega arith

pub loop-row-preserved : goal.loop-row-preserved
loop-row-preserved g c =
    let u = g.M.Machine.rules c.args.lines.now.machine in
    let ls = c.args.lines.now.rows in
    let i = length c.loop-row.yielded in
    let a = c.in-Some.row.now in
    let here = row_turn ls c.into_iter-row-iterator.result c.loop-row.row-iterator c.next.new.self c.loop-row.yielded c.next.result (cc) c.loop-row.yielded_by c.next.ensures.steps c.in-Some.row c.in-Some.is in
    let more = length_more u ls i a here.0 here.1 in
    let fits = text_fits u ls i a here.0 here.1 in
    let start = c.args.start in
    let place = c.args.place.now in
    let at = c.loop-row.at in
    let p = c.loop-row.place in
    let done = text_of (first_lines u ls i) in
    let push = length_push c.loop-row.yielded c.in-Some.row in
    let text = ap (λ j. length (text_of (first_lines u ls j))) push in
    let w : at ≤ length p = omega arith in (
      omega (arith, here.0),
      omega arith,
      ap (put_mid at (length p - at) p) c.put_line-at.ensures.written
          ∙ laid_rest at (length p - at) (u.line_of a) p refl w
          ∙ ap (laid at (u.line_of a)) c.loop-row.invariant.2
          ∙ laid_more start at done (u.line_of a) place c.loop-row.invariant.1 (omega arith)
          ∙ ap (λ l. laid start l place) (sym (text_more u ls i a here.0 here.1) ∙ ap (λ j. text_of (first_lines u ls j)) (sym push)),
    )

pub returns : goal.returns
returns g c =
    let u = g.M.Machine.rules c.args.lines.now.machine in
    let ls = c.args.lines.now.rows in
    let end = rows_end ls c.into_iter-row-iterator.result c.loop-row.row-iterator c.next.new.self c.loop-row.yielded c.next.result (cc) c.loop-row.yielded_by c.next.ensures.steps c.in-None.is in
    c.loop-row.invariant.2 ∙ ap (λ l. laid c.args.start (text_of l) c.args.place.now) (lines_all u ls (length c.loop-row.yielded) (omega (arith, end)))
