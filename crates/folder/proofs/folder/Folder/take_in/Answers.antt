use Rattle.std.proofs.Common.{◌≡◌, ◌+◌, ◌*◌, ◌≤◌, ◌++◌, length, drop, Some, None, Ok, refl, ap, ◌∙◌, inl, inr, sym, subst}
use Rattle.std.proofs.lemmas.Result.{err_from_is_err_and}
use Rattle.files.specs.Bytes.{two}
use Rattle.rows.specs.Standing.{standing}
use Rattle.rows.specs.Checks.{has_room, places}
use Rattle.rows.specs.declared.fault.FolderFault.TheVariants.{List as Listed}
use Rattle.folder.specs.Calls.{TakenIn}
use Rattle.folder.specs.Taking.{FirstFault, LinesAdded}
use Rattle.folder.proofs.Answers.{take_in_done, take_in_refused}
use Rattle.folder.proofs.Taken.{directory_fails, file_rewritten, lines_fail, of_file}
use Rattle.folder.proofs.folder.Folder.take_in.Goals as goal

pub returns-in_err-standing_bytes-clause-answer : goal.returns-in_err-standing_bytes-clause-answer
returns-in_err-standing_bytes-clause-answer g c =
    let machine = c.args.self.now.machine in
    let k = g.M.OrderedRow.kind machine in
    let u = g.M.Machine.rules machine in
    let n = c.args.self.now.count in
    let m = c.args.memory.now in
    let told = c.in_err-standing_bytes.ensures in
    let p = err_from_is_err_and c.from_residual.result c.from_residual.ensures.1 in
    rw (p.1, p.2) (take_in_refused k u n m c.args.file.now told.placed c.in_err-standing_bytes.field-0.0 (inl told.answer))

pub returns-in_err-list-clause-answer : goal.returns-in_err-list-clause-answer
returns-in_err-list-clause-answer g c =
    let machine = c.args.self.now.machine in
    let k = g.M.OrderedRow.kind machine in
    let u = g.M.Machine.rules machine in
    let n = c.args.self.now.count in
    let m = c.args.memory.now in
    let stand = c.in_ok-standing_bytes.ensures in
    let f = c.in_err-list.field-0.0 in
    let exit = c.from_residual-in_err-list in
    let p = err_from_is_err_and exit.result exit.ensures.1 in
    rw (p.1, p.2) (take_in_refused k u n m c.args.file.now stand.placed (Listed f) (inr (stand.answer.0, inl (directory_fails c.args.file.now f c.in_err-list.ensures.opened))))

pub returns-in-Some : goal.returns-in-Some
returns-in-Some g c =
    let machine = c.args.self.now.machine in
    let k = g.M.OrderedRow.kind machine in
    let u = g.M.Machine.rules machine in
    let n = c.args.self.now.count in
    let m = c.args.memory.now in
    let file = c.args.file.now in
    let f = c.in-Some.fault in
    let stand = c.in_ok-standing_bytes.ensures in
    let o = c.in_ok-list.ensures.opened in
    let fails = lines_fail u file f (of_file (λ b i. FirstFault u b i (Some f)) file _ _ o.1 o.2 c.in-Some.ensures) in
    let refused = (inr (stand.answer.0, inr (o.0, inl fails))) in
    record { machine = refl; answer = take_in_refused k u n m file stand.placed (Listed f) refused; rows = (refused, refl); behind = refl; again = tt }

pub returns-in_err-check_room : goal.returns-in_err-check_room
returns-in_err-check_room g c =
    let machine = c.args.self.now.machine in
    let k = g.M.OrderedRow.kind machine in
    let u = g.M.Machine.rules machine in
    let n = c.args.self.now.count in
    let m = c.args.memory.now in
    let file = c.args.file.now in
    let e = c.in_err-check_room.field-0.0 in
    let stand = c.in_ok-standing_bytes.ensures in
    let o = c.in_ok-list.ensures.opened in
    let all = of_file (λ b i. FirstFault u b i None) file _ _ o.1 o.2 c.in_default.ensures in
    let full = subst (λ i. (has_room k.width (length m) (length (standing k.width n m)) i).Fails e) (c.count.ensures ∙ o.2) c.in_err-check_room.ensures in
    let refused = (inr (stand.answer.0, inr (o.0, inr (all, full)))) in
    let exit = c.from_residual-in_err-check_room in
    let p = err_from_is_err_and exit.result exit.ensures.1 in
    rw (p.1, p.2) (record { machine = refl; answer = take_in_refused k u n m file stand.placed e refused; rows = (refused, refl); behind = refl; again = tt })

pub returns : goal.returns
returns g c =
    let machine = c.args.self.now.machine in
    let k = g.M.OrderedRow.kind machine in
    let u = g.M.Machine.rules machine in
    let n = c.args.self.now.count in
    let m = c.args.memory.now in
    let w = k.width in
    let file = c.args.file.now in
    let o = c.in_ok-list.ensures.opened in
    let all = of_file (λ b i. FirstFault u b i None) file _ _ o.1 o.2 c.in_default.ensures in
    let m' = c.write_rows.new.memory in
    let n' = n + c.count-2.result in
    let added = of_file (λ b i. LinesAdded k u b n i m m') file _ _ o.1 o.2 c.write_rows.ensures in
    let total : n' ≡ n + two file 0 = ap (λ i. n + i) (c.count-2.ensures ∙ o.2) in
    let stand : standing w n' m' ≡ standing w n m ++ added.0 = ap (λ i. standing w i m') total ∙ added.2 in
    let free = subst (λ i. length (standing w n m) + i ≤ places k.width (length m)) (c.count.ensures ∙ o.2) c.in_ok-check_room.ensures.0 in
    let rows : TakenIn k u (length m) file (standing w n m) (Ok tt) (standing w n' m') = ((c.in_ok-standing_bytes.ensures.answer.0, (o.0, (all, free))), (added.0, added.1, stand)) in
    let behind : drop (n' * w) m' ≡ drop (n' * w) m = ap (λ i. drop (i * w) m') total ∙ added.3 ∙ ap (λ i. drop (i * w) m) (sym total) in
    record {
      machine = refl;
      answer = take_in_done k u n m file n' m' rows behind;
      rows = rows;
      behind = behind;
      again = file_rewritten u file (standing w n m) added.0 _ (c.in_ok-list.ensures.written refl) added.1 stand;
    }
