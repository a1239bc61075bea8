use Rattle.std.proofs.Common.{◌≡◌, ◌+◌, ◌*◌, ◌≤◌, ◌++◌, map, length, sym, ap, ◌∙◌, arith}
use Rattle.std.proofs.lemmas.List.{length-map, length_push}
use Rattle.files.specs.Writer.{pairs_of, two_bytes}
use Rattle.files.proofs.Written.{length_pairs}
use Rattle.rows.proofs.Turns.{row_turn, rows_end}
use Rattle.listing.specs.Laid.{directory_of, first_lines, laid, text_of}
use Rattle.listing.proofs.Laid.{laid_more}
use Rattle.listing.proofs.Growing.{length_first, length_more, lines_all, no_pairs, pairs_more}
use Rattle.listing.proofs.writing.write_directory.Goals as goal

pub loop-row-init : goal.loop-row-init
loop-row-init g c =
    let e = c.append-at.ensures.end ∙ ap (λ l. 0 + length l) c.two_bytes.ensures in
    (omega arith, omega arith, omega arith, omega arith, sym (no_pairs 2 (2 + 4 * length c.args.lines.now.rows) c.append-at.new.place))

pub append_pair-at-requires : goal.append_pair-at-requires
append_pair-at-requires g c =
    let ls = c.args.lines.now.rows in
    let here = row_turn ls c.into_iter-row-iterator.result c.loop-row.row-iterator c.next.new.self c.loop-row.yielded c.next.result (cc) c.loop-row.yielded_by c.next.ensures.steps c.in-Some.row c.in-Some.is in
    record { room = omega (arith, here.0); low = omega (arith, here.0, c.rows-row-items.ensures.few); short = omega arith }

pub loop-row-preserved : goal.loop-row-preserved
loop-row-preserved g c =
    let u = g.M.Machine.rules c.args.lines.now.machine in
    let ls = c.args.lines.now.rows in
    let i = length c.loop-row.yielded in
    let a = c.in-Some.row.now in
    let at = c.loop-row.at in
    let here = row_turn ls c.into_iter-row-iterator.result c.loop-row.row-iterator c.next.new.self c.loop-row.yielded c.next.result (cc) c.loop-row.yielded_by c.next.ensures.steps c.in-Some.row c.in-Some.is in
    let inv = c.loop-row.invariant in
    let more = length_more u ls i a here.0 here.1 in
    let offset = 2 + 4 * length ls in
    let pairs = pairs_of offset (first_lines u ls i) in
    let pair = two_bytes c.loop-row.offset ++ two_bytes c.line_len-size.result in
    let front = c.append-at.new.place in
    let e : at ≡ 2 + length pairs = omega (arith, inv.1, length_pairs offset (first_lines u ls i), length_first u ls i inv.0) in
    let f : at ≤ length front = omega (arith, here.0) in
    let p : pairs ++ pair ≡ pairs_of offset (first_lines u ls (i + 1)) =
    ap (λ o. pairs ++ (two_bytes o ++ two_bytes c.line_len-size.result)) inv.2
    ∙ ap (λ o. pairs ++ (two_bytes (offset + length (text_of (first_lines u ls i))) ++ two_bytes o)) c.line_len-size.ensures.size
    ∙ sym (pairs_more u ls i a here.0 here.1 offset) in
    let push = length_push c.loop-row.yielded c.in-Some.row in
    let text = ap (λ j. length (text_of (first_lines u ls j))) push in (
      omega (arith, here.0),
      omega arith,
      omega arith,
      omega arith,
      c.append_pair-at.ensures.written
          ∙ ap (laid at pair) inv.4
          ∙ laid_more 2 at pairs pair front e f
          ∙ ap (λ l. laid 2 l front) (p ∙ ap (λ j. pairs_of offset (first_lines u ls j)) (sym push)),
    )

pub returns : goal.returns
returns g c =
    let u = g.M.Machine.rules c.args.lines.now.machine in
    let ls = c.args.lines.now.rows in
    let place = c.args.place.now in
    let inv = c.loop-row.invariant in
    let end = rows_end ls c.into_iter-row-iterator.result c.loop-row.row-iterator c.next.new.self c.loop-row.yielded c.next.result (cc) c.loop-row.yielded_by c.next.ensures.steps c.in-None.is in
    let xs = map u.line_of ls in
    let k : length xs ≡ length ls = length-map ls u.line_of in
    let pairs = pairs_of (2 + 4 * length ls) xs in
    let count = two_bytes (length ls) in
    let front : c.append-at.new.place ≡ laid 0 count place =
    c.append-at.ensures.written ∙ ap (λ l. laid 0 l place) (c.two_bytes.ensures ∙ ap two_bytes c.count.ensures.rows) in
    let whole : count ++ pairs ≡ directory_of xs =
    ap (λ q. two_bytes q ++ pairs_of (2 + 4 * q) xs) (sym k) in
    record {
      end = omega (arith, end, inv.1);
      written = inv.4
          ∙ ap (λ l. laid 2 (pairs_of (2 + 4 * length ls) l) c.append-at.new.place) (lines_all u ls (length c.loop-row.yielded) (omega (arith, end)))
          ∙ ap (laid 2 pairs) front
          ∙ laid_more 0 2 count pairs place (omega arith) (omega arith)
          ∙ ap (λ l. laid 0 l place) whole;
    }
