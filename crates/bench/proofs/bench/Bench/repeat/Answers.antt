use Rattle.std.proofs.Common.{suc, ◌-◌, Ok, Err, sym, ap, ◌∙◌, subst, arith}
use Rattle.std.proofs.lemmas.Result.{err_from_is_err_and}
use Rattle.files.specs.Program.{Program, program}
use Rattle.bench.specs.Play.{Came, played}
use Rattle.bench.specs.Table.{table_of}
use Rattle.bench.proofs.Repeating.{repeated_more, repeated_stop, repeated_end}
use Rattle.bench.proofs.bench.Bench.repeat.Goals as goal

pub loop-i-preserved : goal.loop-i-preserved
loop-i-preserved g c =
    let k = g.R.Record.Message.kind in
    let u = g.R.Rules.book in
    let s = program c.args.self.now.system in
    let t = table_of c.loop-i.self c.loop-i.messages in
    let t' = table_of c.play.new.self c.play.new.messages in
    let told = c.in_ok-play.ensures in
    let came = subst (λ (p : Program). Came (played k u p t c.args.number) (Ok tt) t') c.loop-i.invariant.0 told.came in (
      told.system ∙ c.loop-i.invariant.0,
      λ n e. sym (repeated_more k u s c.args.number n t t' came) ∙ c.loop-i.invariant.1 (suc n) (omega arith),
    )

pub returns-in_err-play-clause-came : goal.returns-in_err-play-clause-came
returns-in_err-play-clause-came g c =
    let k = g.R.Record.Message.kind in
    let u = g.R.Rules.book in
    let s = program c.args.self.now.system in
    let t = table_of c.loop-i.self c.loop-i.messages in
    let t' = table_of c.play.new.self c.play.new.messages in
    let fault = c.in_err-play.field-0.0 in
    let told = c.in_err-play.ensures in
    let came = subst (λ (p : Program). Came (played k u p t c.args.number) (Err fault) t') c.loop-i.invariant.0 told.came in
    let i = c.loop-i._i in
    let n = c.args.times - i in
    let o = sym (c.loop-i.invariant.1 n (omega arith)) ∙ repeated_stop k u s c.args.number n i c.args.times fault t t' (omega arith) c.loop-i-test.true came in
    let p = err_from_is_err_and c.from_residual.result c.from_residual.ensures.1 in
    rw (p.1, p.2) (sym (ap (λ w. w.answer) o), sym (ap (λ w. w.after) o))

pub returns-clause-came : goal.returns-clause-came
returns-clause-came g c =
    let k = g.R.Record.Message.kind in
    let u = g.R.Rules.book in
    let s = program c.args.self.now.system in
    let t = table_of c.loop-i.self c.loop-i.messages in
    let o = sym (c.loop-i.invariant.1 0 (omega arith)) ∙ repeated_end k u s c.args.number t in
    (sym (ap (λ w. w.answer) o), sym (ap (λ w. w.after) o))
