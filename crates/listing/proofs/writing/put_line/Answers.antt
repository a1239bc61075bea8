use Rattle.std.proofs.Common.{◌≡◌, ◌++◌, drop, sym, ap, ◌∙◌, subst}
use Rattle.machines.specs.Kind.{LineWritten}
use Rattle.listing.specs.Laid.{laid}
use Rattle.listing.proofs.Laid.{laid_front}
use Rattle.listing.proofs.writing.put_line.Goals as goal

pub returns-clause-written : goal.returns-clause-written
returns-clause-written g c =
    let u = g.M.Machine.rules c.machine.result.now in
    let a = c.args.row.now in
    let place = c.args.place.now in
    let told = subst (λ o. LineWritten u a place c.write_line.new.line o) c.unwrap.ensures c.write_line.ensures in
    let written = told.3 ∙ ap (λ n. u.line_of a ++ drop n place) told.1 ∙ sym (laid_front (u.line_of a) place) in
    subst (λ x. c.write_line.new.line ≡ laid 0 ((g.M.Machine.rules x).line_of a) place) c.machine.ensures.machine written
