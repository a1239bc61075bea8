use Rattle.std.proofs.Common.{◌≡◌, ◌-◌, length, take, sym, ap, ◌∙◌, arith}
use Rattle.files.specs.Program.{program}
use Rattle.bench.specs.Table.{table_of, needed}
use Rattle.bench.proofs.Playing.{after_is}
use Rattle.bench.proofs.Starting.{in_range, start_is, zeros_front, cleared_front, begun_done}
use Rattle.bench.proofs.bench.Bench.begin.Goals as goal

pub returns-clause-came : goal.returns-clause-came
returns-clause-came g c =
    let b = c.args.self.now in
    let ms = c.args.messages.now in
    let s = program b.system in
    let k = g.R.Record.Message.kind in
    let u = g.R.Rules.book in
    let z = in_range s.states s.variables s.values b.system.sized in
    let n = c.needed-needed.result - 0 in
    let e : n ≡ needed u s = omega (arith, c.needed-needed.ensures.value) in
    let l : length (take n ms) ≡ n = omega arith in
    let f = begun_done k u s (table_of b ms) (omega arith) in (
      sym (ap (λ o. o.answer) f),
      after_is _ _ (zeros_front _ z.0) (zeros_front _ z.1) (zeros_front _ z.0) (cleared_front n (needed u s) k.zero ms c.clear.new.places e l c.clear.ensures) ∙ sym (ap (λ o. o.after) f),
    )

pub returns-clause-start : goal.returns-clause-start
returns-clause-start g c = λ h.
    let s = program c.args.self.now.system in
    let z = in_range s.states s.variables s.values c.args.self.now.system.sized in
    start_is g.R.Record.Message.kind g.R.Rules.book s _ (zeros_front _ z.0) (zeros_front _ z.1) (zeros_front _ z.0)
