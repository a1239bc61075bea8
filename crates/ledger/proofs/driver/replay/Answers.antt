use Rattle.std.proofs.Common.{◌<◌, length, get_or, get_or-take, length-take-le, take, ap, ◌∙◌, subst, arith}
use Rattle.rows.specs.Standing.{standing}
use Rattle.ledger.specs.Ledger.{Called, state}
use Rattle.ledger.proofs.Played.{no_call, played_more}
use Rattle.ledger.proofs.driver.replay.Goals as goal

pub loop-i-init : goal.loop-i-init
unfolding standing
loop-i-init g c =
    let w = (g.M.OrderedRow.kind c.args.machine).width in
    (c.open-folder.ensures.machine, ap (λ n. state (standing w n c.args.memory.now) c.args.strip.now c.args.witness.now) c.open-folder.ensures.empty)

pub loop-i-preserved : goal.loop-i-preserved
loop-i-preserved g c =
    let inv = c.loop-i.invariant in
    let told = c.play.ensures in
    let k = g.M.OrderedRow.kind c.args.machine in
    let u = g.M.Machine.rules c.args.machine in
    let calls = c.args.calls.now in
    let count = c.min-count.result in
    let l = c.loop-i in
    let x = c.play.new in
    let a = c.play.result in
    let b = state (standing k.width l.folder.count l.memory) l.strip l.witness in
    let b' = state (standing k.width x.folder.count x.memory) x.strip x.witness in
    let turn : l.i < count = omega (arith, length-take-le count calls (omega (arith, c.min-count.ensures)), c.loop-i-test.true) in
    let here = get_or-take count calls l.i no_call turn in
    let called = subst (λ m. Called (g.M.OrderedRow.kind m) (g.M.Machine.rules m) (length l.memory) (get_or (take count calls) l.i no_call) a (state (standing (g.M.OrderedRow.kind m).width l.folder.count l.memory) l.strip l.witness) (state (standing (g.M.OrderedRow.kind m).width x.folder.count x.memory) x.strip x.witness)) inv.0 told.called in
    let called' = subst (λ d. Called k u (length c.args.memory.now) d a b b') here (subst (λ m. Called k u m (get_or (take count calls) l.i no_call) a b b') l.auto.memory called) in (
      told.machine ∙ inv.0,
      played_more k u (length c.args.memory.now) _ b b' calls l.answers l.i no_call a (omega (arith, turn, c.min-count.ensures)) (omega (arith, turn, c.min-count.ensures, l.auto.answers)) inv.1 called',
    )
