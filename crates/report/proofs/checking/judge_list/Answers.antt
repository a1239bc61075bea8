use Rattle.std.proofs.lemmas.Result.{err_from_is_err_and}
use Rattle.std.proofs.Common.{◌≡◌, ℕ, ◌≤◌, List, length, replicate, Ok, Err, ap, ◌∙◌, subst, arith}
use Rattle.files.specs.Bytes.{two}
use Rattle.files.specs.Program.{program}
use Rattle.fronts.proofs.Systems.{known}
use Rattle.load_buffers.specs.Configs.{load_kind}
use Rattle.load_buffers.specs.LoadRules.{load_rules}
use Rattle.judge.specs.Verdicts.{SafeHolds}
use Rattle.folder.specs.Answers.{JudgeAnswer, TakeInAnswer}
use Rattle.report.proofs.Hardware.{safe_means}
use Rattle.report.proofs.Taken.{judged_rows, list_wrong, not_refused, rows_fit}
use Rattle.report.proofs.checking.judge_list.Goals as goal

pub returns-in_err-take_in : goal.returns-in_err-take_in
returns-in_err-take_in c =
    let sys = c.args.system in
    let s = program sys in
    let range = known sys in
    let m = c.args.memory.now in
    let m' = c.take_in.new.memory in
    let n = c.take_in.new.self.count in
    let file = c.args.list.now in
    let folder = c.open-folder.result in
    let same : folder.machine.system ≡ sys = ap (λ y. y.system) c.open-folder.ensures.machine ∙ c.new.ensures in
    let e = c.in_err-take_in.field-0.0 in
    let told = subst (λ y. TakeInAnswer (load_kind (program y)) (load_rules (program y)) 0 n m m' file (Err e)) same
    (subst (λ i. TakeInAnswer (load_kind (program folder.machine.system)) (load_rules (program folder.machine.system)) i n m m' file (Err e)) c.open-folder.ensures.empty c.in_err-take_in.ensures.answer)
    in
    let (f, wrong, numbers) = list_wrong s n m m' file e (omega (arith, range.processes)) (omega (arith, range.processes, range.variables)) c.requires told in
    let p = err_from_is_err_and c.from_residual.result c.from_residual.ensures.1 in
    rw p.1 (f, wrong, p.2 ∙ numbers)

pub unreachable-requires : goal.unreachable-requires
unreachable-requires c =
    let sys = c.args.system in
    let s = program sys in
    let range = known sys in
    let m = c.args.memory.now in
    let m' = c.take_in.new.memory in
    let n = c.take_in.new.self.count in
    let file = c.args.list.now in
    let folder = c.open-folder.result in
    let same : folder.machine.system ≡ sys = ap (λ y. y.system) c.open-folder.ensures.machine ∙ c.new.ensures in
    let kept : c.take_in.new.self.machine.system ≡ sys = ap (λ y. y.system) c.take_in.ensures.machine ∙ same in
    let x = c.in_ok-take_in.field-0 in
    let told = subst (λ y. TakeInAnswer (load_kind (program y)) (load_rules (program y)) 0 n m m' file (Ok x)) same
    (subst (λ i. TakeInAnswer (load_kind (program folder.machine.system)) (load_rules (program folder.machine.system)) i n m m' file (Ok x)) c.open-folder.ensures.empty c.in_ok-take_in.ensures.answer)
    in
    let e = c.in-Err.field-0 in
    let z : List ℕ = replicate 48 0 in
    let answer = subst (λ y. JudgeAnswer (load_kind (program y)) (load_rules (program y)) n m' z c.judge.new.strip z c.judge.new.witness (Err e)) kept c.in-Err.ensures.answer in
    let w = (load_kind s).width in
    let narrow : w ≤ 48 = omega (arith, range.processes, range.variables) in
    let fits = rows_fit n (two file 0) w (length m) told.4 told.3 in
    not_refused (load_kind s) (load_rules s) file m m' n told.4 told.5 z c.judge.new.strip z c.judge.new.witness e answer (omega (arith, fits, c.take_in.auto.memory)) narrow narrow

pub returns : goal.returns
returns c =
    let sys = c.args.system in
    let s = program sys in
    let m = c.args.memory.now in
    let m' = c.take_in.new.memory in
    let n = c.take_in.new.self.count in
    let file = c.args.list.now in
    let folder = c.open-folder.result in
    let same : folder.machine.system ≡ sys = ap (λ y. y.system) c.open-folder.ensures.machine ∙ c.new.ensures in
    let kept : c.take_in.new.self.machine.system ≡ sys = ap (λ y. y.system) c.take_in.ensures.machine ∙ same in
    let x = c.in_ok-take_in.field-0 in
    let told = subst (λ y. TakeInAnswer (load_kind (program y)) (load_rules (program y)) 0 n m m' file (Ok x)) same
    (subst (λ i. TakeInAnswer (load_kind (program folder.machine.system)) (load_rules (program folder.machine.system)) i n m m' file (Ok x)) c.open-folder.ensures.empty c.in_ok-take_in.ensures.answer)
    in
    let v = c.in-Ok.verdict in
    let answer = subst (λ y. JudgeAnswer (load_kind (program y)) (load_rules (program y)) n m' (replicate 48 0) c.judge.new.strip (replicate 48 0) c.judge.new.witness (Ok v)) kept c.in-Ok.ensures.answer in
    let safe = subst (λ y. SafeHolds (load_rules (program y)) (Ok v)) kept c.in-Ok.ensures.safe in
    (told.1, c.count-lines.ensures ∙ told.4 ∙ omega arith, judged_rows (load_kind s) (load_rules s) file m m' n told.4 told.5 v answer.2, safe_means sys v safe)
