use Rattle.std.proofs.Common.{◌≡◌, ℕ, ◌+◌}
use Rattle.files.specs.Program.{program}
use Rattle.bench.specs.Play.{repeated}
use Rattle.bench.specs.Table.{table_of}
use Rattle.bench.proofs.bench.Bench.repeat.Given as goal

abbrev pub invariant-loop-i : goal.invariant-loop-i
invariant-loop-i g l =
    let k = g.R.Record.Message.kind in
    let u = g.R.Rules.book in
    let s = program l.initial.self.system in
    (program l.self.system ≡ s)
    × ((n : ℕ) → n + l._i ≡ l.times → repeated k u s l.number n (table_of l.self l.messages) ≡ repeated k u s l.number l.times (table_of l.initial.self l.initial.messages))
