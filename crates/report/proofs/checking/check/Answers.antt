use Rattle.std.proofs.Common.{Ok, Err, subst, rules}
use Rattle.report.specs.Checked.{ListJudged}
use Rattle.report.proofs.checking.check.Goals as goal

pub returns-in-Ok-judge_list : goal.returns-in-Ok-judge_list
returns-in-Ok-judge_list c =
    let read = c.in-Ok.ensures in
    (search rules, subst (λ s. ListJudged s c.args.list.now (Ok (c.in-Ok-judge_list.lines, c.in-Ok-judge_list.verdict))) read.1 c.in-Ok-judge_list.ensures)

pub returns : goal.returns
returns c =
    let read = c.in-Ok.ensures in
    (search rules, subst (λ s. ListJudged s c.args.list.now (Err c.in-Err-judge_list.refusal)) read.1 c.in-Err-judge_list.ensures)
