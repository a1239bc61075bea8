use Rattle.std.proofs.Common.{◌≡◌, ◌+◌, ◌-◌, ◌*◌, get_or, None, ap, ◌∙◌, arith, rules}
use Rattle.std.specs.Option.{option_map}
use Rattle.bench.proofs.Queued.{in_queue}
use Rattle.bench.proofs.checks.wrong_in_queue.Goals as goal

pub returns-in_err-place : goal.returns-in_err-place
returns-in_err-place g c = λ s z.
    let p = c.args.process in
    let none : c.from_residual.result ≡ None = search rules in
    none ∙ ap (option_map (λ i. 8 * p + i)) (c.in_err-place.ensures.value s z)
    ∙ in_queue g.M.Message.kind s c.args.lengths.now c.args.messages.now p (8 * p + get_or c.args.lengths.now p 0 - 8 * p) (omega arith) (omega arith) c.requires.places

pub returns : goal.returns
returns g c = λ s z.
    let p = c.args.process in
    ap (option_map (λ i. 8 * p + i)) (c.in_ok-place.ensures.value s z)
    ∙ in_queue g.M.Message.kind s c.args.lengths.now c.args.messages.now p (8 * p + get_or c.args.lengths.now p 0 - 8 * p) (omega arith) (omega arith) c.requires.places
