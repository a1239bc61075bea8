use Rattle.std.proofs.Common.{◌≡◌, ◌+◌, not, option_map, rules}
use Rattle.std.specs.Result.{result_err}
use Rattle.std.proofs.lemmas.Iterator.{YieldsList-from_slice}
use Rattle.std.proofs.lemmas.Iterator.Search.{position_from_yields_List}
use Rattle.files.specs.Sizes.{one_to}
use Rattle.files.proofs.sizes.check_counts.Goals as goal

pub returns : goal.returns
returns c =
    let found = position_from_yields_List (λ n. not (one_to 16 n)) _ _ c.position.result c.position.ensures.ran (YieldsList-from_slice c.args.states.now c.iter.ensures.rest) (λ x b q k. search rules) in
    let placed : result_err c.map_or.result ≡ option_map (λ i. 15 + i) c.position.result = search rules in
    cc
