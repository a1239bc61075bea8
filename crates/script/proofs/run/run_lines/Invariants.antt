use Rattle.std.proofs.Common.{◌≡◌, ◌≤◌, drop}
use Rattle.std.specs.List.{between}
use Rattle.files.specs.Program.{program}
use Rattle.bench.specs.Table.{table_of}
use Rattle.script.specs.Scripts.{folded, lines_from, lines_of}
use Rattle.script.proofs.run.run_lines.Given as goal

abbrev pub invariant-loop-i : goal.invariant-loop-i
invariant-loop-i g l =
    let k = g.R.Record.Message.kind in
    let u = g.R.Rules.book in
    let s = program l.initial.bench.system in
    (l.start ≤ l.i)
    × (l.line ≤ l.i)
    × (program l.bench.system ≡ s)
    × (folded k u s l.line (lines_from (between l.start l.i l.script) (drop l.i l.script)) (table_of l.bench l.messages) ≡ folded k u s 0 (lines_of l.script) (table_of l.initial.bench l.initial.messages))
