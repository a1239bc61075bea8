use Rattle.std.proofs.Common.{not, ◌∙◌, rules, tests}
use Rattle.std.proofs.lemmas.Iterator.{YieldsList-from_slice}
use Rattle.std.proofs.lemmas.Iterator.Adapters.{position_from-zero}
use Rattle.std.proofs.lemmas.Iterator.Search.{position_from_yields_List}
use Rattle.bench.specs.Play.{fits}
use Rattle.bench.proofs.checks.wrong_among.Goals as goal

pub returns-clause-value : goal.returns-clause-value
returns-clause-value g c = λ s z.
    let test = λ (m : g.row.M.Denot). not (fits s (g.M.Message.kind.means m)) in
    position_from_yields_List test _ _ c.position.result c.position.ensures.ran (YieldsList-from_slice c.args.queued.now (cc)) (λ x b q h. search (rules, tests))
    ∙ position_from-zero test c.args.queued.now
