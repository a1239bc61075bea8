use Rattle.std.proofs.Common.{◌+◌, drop, Ok, Err, sym, ap, ◌∙◌, subst, arith, rules}
use Rattle.std.specs.List.{between}
use Rattle.std.proofs.lemmas.Result.{err_from_is_err_and}
use Rattle.files.specs.Program.{Program, program}
use Rattle.bench.specs.Play.{Came}
use Rattle.bench.specs.Table.{table_of}
use Rattle.bench.proofs.Playing.{kept_ok, changed_err}
use Rattle.script.specs.Scripts.{folded, lines_from, obeyed}
use Rattle.script.proofs.Reading.{lines_line, lines_byte, folded_left, folded_end, folded_unread, folded_refused, folded_more}
use Rattle.script.proofs.run.run_lines.Goals as goal
use Rattle.script.proofs.run.run_lines.Goals.{then-script-i-eq10+in-Some+in_ok-map_err, else-script-i-eq10}

pub loop-i-preserved : goal.loop-i-preserved
loop-i-preserved g c =
    let k = g.R.Record.Message.kind in
    let u = g.R.Rules.book in
    let s = program c.args.bench.now.system in
    let bs = c.args.script.now in
    let i = c.loop-i.i in
    let start = c.loop-i.start in
    let n = c.loop-i.line in
    let t = table_of c.loop-i.bench c.loop-i.messages in
    let inv = c.loop-i.invariant in
    elim c.if-script-i-eq10.branch [
      | then-script-i-eq10+in-Some+in_ok-map_err w ↦
          let b = w.bench-is in
          let m = w.messages-is in
          let a = w.start-is in
          let l = w.line-is in
          let t' = table_of w.obey.new.bench w.obey.new.messages in
          let ok = kept_ok w.obey.result w.map_err.result _ tt w.map_err.ensures.cases w.in_ok-map_err.was in
          let told = w.obey.ensures in
          let came = subst (λ (p : Program). Came (obeyed k u p t w.in-Some.command) (Ok tt) t') inv.2 (sym ok ∙ told.came.0, told.came.1) in
          let rest = lines_from (between (i + 1) (i + 1) bs) (drop (i + 1) bs) in
          let e = ap (λ ls. folded k u s n ls t) (lines_line start i bs c.loop-i-test.true w.if-script-i-eq10.true) ∙ folded_more k u s n t (between start i bs) rest w.in-Some.command t' w.in-Some.ensures came in
          let f = sym e ∙ inv.3 in
          (omega arith, omega arith, ap (λ x. program x.system) b ∙ told.system ∙ inv.2, cc)
      | else-script-i-eq10 w ↦
          let b = w.bench-is in
          let m = w.messages-is in
          let a = w.start-is in
          let l = w.line-is in
          let e = ap (λ ls. folded k u s n ls t) (lines_byte start i bs inv.0 c.loop-i-test.true w.if-script-i-eq10.false) in
          let f = sym e ∙ inv.3 in
          (omega arith, omega arith, ap (λ x. program x.system) b ∙ inv.2, cc)
    ]

pub returns-in_default : goal.returns-in_default
returns-in_default g c =
    let k = g.R.Record.Message.kind in
    let u = g.R.Rules.book in
    let s = program c.args.bench.now.system in
    let bs = c.args.script.now in
    let i = c.loop-i.i in
    let start = c.loop-i.start in
    let n = c.loop-i.line in
    let t = table_of c.loop-i.bench c.loop-i.messages in
    let rest = lines_from (between (i + 1) (i + 1) bs) (drop (i + 1) bs) in
    let o = sym c.loop-i.invariant.3 ∙ ap (λ ls. folded k u s n ls t) (lines_line start i bs c.loop-i-test.true c.if-script-i-eq10.true) ∙ folded_unread k u s n t (between start i bs) rest c.in_default.ensures in
    record { came = (sym (ap (λ w. w.answer) o), sym (ap (λ w. w.after) o)); system = c.loop-i.invariant.2 }

pub returns-in_err-map_err-clause-came : goal.returns-in_err-map_err-clause-came
returns-in_err-map_err-clause-came g c =
    let k = g.R.Record.Message.kind in
    let u = g.R.Rules.book in
    let s = program c.args.bench.now.system in
    let bs = c.args.script.now in
    let i = c.loop-i.i in
    let start = c.loop-i.start in
    let n = c.loop-i.line in
    let t = table_of c.loop-i.bench c.loop-i.messages in
    let t' = table_of c.obey.new.bench c.obey.new.messages in
    let rest = lines_from (between (i + 1) (i + 1) bs) (drop (i + 1) bs) in
    let r = changed_err (λ e. record { line = n; fault = e }) c.obey.result c.map_err.result _ c.in_err-map_err.field-0.0 c.map_err.ensures.cases (λ e f z. search rules) c.in_err-map_err.was in
    let told = c.obey.ensures in
    let came = subst (λ (p : Program). Came (obeyed k u p t c.in-Some.command) (Err r.0) t') c.loop-i.invariant.2 (sym r.1 ∙ told.came.0, told.came.1) in
    let o = sym c.loop-i.invariant.3 ∙ ap (λ ls. folded k u s n ls t) (lines_line start i bs c.loop-i-test.true c.if-script-i-eq10.true) ∙ folded_refused k u s n t (between start i bs) rest c.in-Some.command r.0 t' c.in-Some.ensures came in
    let p = err_from_is_err_and c.from_residual.result c.from_residual.ensures.1 in
    rw (p.1, p.2) (ap Err r.2 ∙ sym (ap (λ w. w.answer) o), sym (ap (λ w. w.after) o))

pub returns-then-start-script : goal.returns-then-start-script
returns-then-start-script g c =
    let k = g.R.Record.Message.kind in
    let u = g.R.Rules.book in
    let s = program c.args.bench.now.system in
    let bs = c.args.script.now in
    let t = table_of c.loop-i.bench c.loop-i.messages in
    let o = sym c.loop-i.invariant.3 ∙ folded_left k u s c.loop-i.line t c.loop-i.start c.loop-i.i bs (omega arith) (omega arith) (omega arith) in
    record { came = (sym (ap (λ w. w.answer) o), sym (ap (λ w. w.after) o)); system = c.loop-i.invariant.2 }

pub returns : goal.returns
returns g c =
    let k = g.R.Record.Message.kind in
    let u = g.R.Rules.book in
    let s = program c.args.bench.now.system in
    let bs = c.args.script.now in
    let t = table_of c.loop-i.bench c.loop-i.messages in
    let o = sym c.loop-i.invariant.3 ∙ folded_end k u s c.loop-i.line t c.loop-i.start c.loop-i.i bs (omega arith) (omega arith) (omega arith) in
    record { came = (sym (ap (λ w. w.answer) o), sym (ap (λ w. w.after) o)); system = c.loop-i.invariant.2 }
