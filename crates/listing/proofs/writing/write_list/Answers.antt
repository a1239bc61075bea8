use Rattle.std.proofs.Common.{◌≡◌, ◌+◌, ◌≤◌, ◌++◌, map, length, drop, sym, refl, ap, ◌∙◌, subst, arith}
use Rattle.std.proofs.lemmas.List.{length-map}
use Rattle.files.proofs.Written.{written_read}
use Rattle.rows.specs.Listing.{file_of}
use Rattle.rows.specs.Standing.{rows_of}
use Rattle.rows.proofs.Rows.{standing_length}
use Rattle.listing.specs.Laid.{directory_of, laid, text_of}
use Rattle.listing.specs.Listing.{Written}
use Rattle.listing.proofs.Laid.{laid_front, laid_more}
use Rattle.listing.proofs.Growing.{length_directory, length_file}
use Rattle.listing.proofs.writing.write_list.Goals as goal

pub write_directory-start-requires : goal.write_directory-start-requires
write_directory-start-requires g c =
    let v = c.in_ok-lines.lines in
    record { room = omega (arith, length_file (g.M.Machine.rules v.machine) v.rows) }

pub write_lines-requires : goal.write_lines-requires
write_lines-requires g c =
    let v = c.in_ok-lines.lines in
    record { room = omega (arith, length_file (g.M.Machine.rules v.machine) v.rows) }

pub returns-clause-answer : goal.returns-clause-answer
returns-clause-answer g c =
    let v = c.in_ok-lines.lines in
    let u = g.M.Machine.rules v.machine in
    let new = c.in_ok-lines.ensures in
    let place = c.args.place.now in
    let xs = map u.line_of v.rows in
    let size = c.file_len-size.result in
    let start = c.write_directory-start.result in
    let s : start ≡ 0 + length (directory_of xs) = omega (arith, c.write_directory-start.ensures.end, length_directory u v.rows) in
    let fits : start ≤ length place = omega (arith, c.write_directory-start.ensures.end, length_file u v.rows) in
    let written : c.write_lines.new.place ≡ file_of u v.rows ++ drop size place =
    c.write_lines.ensures
    ∙ ap (laid start (text_of xs)) c.write_directory-start.ensures.written
    ∙ laid_more 0 start (directory_of xs) (text_of xs) place s fits
    ∙ laid_front (file_of u v.rows) place
    ∙ ap (λ q. file_of u v.rows ++ drop q place) (sym c.file_len-size.ensures) in
    let told = subst (λ x. Written (g.M.Machine.rules x.machine) x.rows place c.write_lines.new.place size) new.0 (c.file_len-size.ensures, written) in
    ((new.1, omega (arith, told.0)), told)

pub returns-clause-again : goal.returns-clause-again
returns-clause-again g c =
    let u = g.M.Machine.rules c.args.machine.now in
    let v = c.args.lines.now in
    let ls = rows_of v in
    let n : length ls ≡ v.count = standing_length v.width v.count v.bytes.now in
    let k : length (map u.line_of ls) ≡ length ls = length-map ls u.line_of in
    written_read (file_of u ls) (map u.line_of ls) refl (omega (arith, v.few))
