use Rattle.std.proofs.Common.{length, refl, subst, inl}
use Rattle.std.proofs.lemmas.Result.{err_from_is_err_and}
use Rattle.rows.specs.Checks.{Answered, holds_rows}
use Rattle.rows.specs.Standing.{standing}
use Rattle.rows.proofs.Checked.{checked_first}
use Rattle.judge.specs.Verdicts.{Judged, WitnessLeft, judge_checks}
use Rattle.folder.proofs.Answers.{judge_answer, judge_refused}
use Rattle.folder.proofs.folder.Folder.judge.Goals as goal

pub returns-in_err-lines-clause-answer : goal.returns-in_err-lines-clause-answer
returns-in_err-lines-clause-answer g c =
    let machine = c.args.self.now.machine in
    let k = g.M.OrderedRow.kind machine in
    let u = g.M.Machine.rules machine in
    let n = c.args.self.now.count in
    let m = c.args.memory.now in
    let s = c.args.strip.now in
    let t = c.args.witness.now in
    let told = c.in_err-lines.ensures in
    let p = err_from_is_err_and c.from_residual.result c.from_residual.ensures.1 in
    rw (p.1, p.2) (judge_refused k u n m s s t t c.in_err-lines.field-0.0 (inl told) (rw told.1 refl) (rw told.1 refl))

pub returns : goal.returns
returns g c =
    let machine = c.args.self.now.machine in
    let k = g.M.OrderedRow.kind machine in
    let u = g.M.Machine.rules machine in
    let n = c.args.self.now.count in
    let m = c.args.memory.now in
    let s = c.args.strip.now in
    let t = c.args.witness.now in
    let t' = c.judge_lines.new.witness in
    let r = c.judge_lines.result in
    let ls = standing k.width n m in
    let stand = c.in_ok-lines.ensures in
    let told = c.judge_lines.ensures in
    let answer = subst (λ q. Answered (judge_checks k u q (length s) (length t)) (Judged k u q) r) stand.1.0 told.answer in
    let ruled = checked_first (holds_rows k.width (length ls) (length m)) (judge_checks k u ls (length s) (length t)) (Judged k u ls) r stand.0 answer in
    let witness = subst (λ q. WitnessLeft k u q r t t') stand.1.0 told.witness in
    record { answer = judge_answer k u n m s c.judge_lines.new.strip t t' r ruled told.strip witness; ruled = ruled; strip = told.strip; witness = witness; safe = told.safe }
