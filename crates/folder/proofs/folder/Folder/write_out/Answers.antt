use Rattle.std.proofs.Common.{length, subst}
use Rattle.rows.specs.Checks.{Answered}
use Rattle.rows.specs.Standing.{standing}
use Rattle.listing.specs.Listing.{ReadsBack, Written, list_checks}
use Rattle.folder.proofs.Retaken.{retaken}
use Rattle.folder.proofs.folder.Folder.write_out.Goals as goal

pub returns-clause-again : goal.returns-clause-again
returns-clause-again g c =
    let k = g.M.OrderedRow.kind c.args.self.now.machine in
    let u = g.M.Machine.rules c.args.self.now.machine in
    let ls = standing k.width c.args.self.now.count c.args.memory.now in
    let place = c.args.place.now in
    let place' = c.write_list.new.place in
    let r = c.write_list.result in
    let same = c.in_ok-lines.ensures.1.0 in
    let told = c.write_list.ensures in
    retaken k u ls place place' r (subst (λ q. Answered (list_checks u q (length place)) (Written u q place place') r) same told.answer) (subst (λ q. ReadsBack u q r) same told.again)
