use Rattle.std.proofs.Common.{length, ap, arith}
use Rattle.std.proofs.lemmas.List.{length_push}
use Rattle.listing.specs.Laid.{first_lines, text_of}
use Rattle.rows.proofs.Turns.{row_turn, rows_end}
use Rattle.listing.proofs.Growing.{length_file, length_more, lines_all}
use Rattle.listing.proofs.writing.file_len.Goals as goal

pub loop-row-preserved : goal.loop-row-preserved
loop-row-preserved g c =
    let u = g.M.Machine.rules c.args.lines.now.machine in
    let ls = c.args.lines.now.rows in
    let n = length c.loop-row.yielded in
    let here = row_turn ls c.into_iter-row-iterator.result c.loop-row.row-iterator c.next.new.self c.loop-row.yielded c.next.result (cc) c.loop-row.yielded_by c.next.ensures.steps c.in-Some.row c.in-Some.is in
    let more = length_more u ls n c.in-Some.row.now here.0 here.1 in
    let push = length_push c.loop-row.yielded c.in-Some.row in
    let text = ap (λ i. length (text_of (first_lines u ls i))) push in
    (omega (arith, here.0), omega arith, omega arith)

pub returns : goal.returns
returns g c =
    let u = g.M.Machine.rules c.args.lines.now.machine in
    let ls = c.args.lines.now.rows in
    let end = rows_end ls c.into_iter-row-iterator.result c.loop-row.row-iterator c.next.new.self c.loop-row.yielded c.next.result (cc) c.loop-row.yielded_by c.next.ensures.steps c.in-None.is in
    let all = ap (λ l. length (text_of l)) (lines_all u ls (length c.loop-row.yielded) (omega (arith, end))) in
    omega (arith, length_file u ls)
