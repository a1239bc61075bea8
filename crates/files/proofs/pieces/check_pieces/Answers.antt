use Rattle.std.proofs.Common.{◌≡◌, ◌+◌, ◌*◌, ◌/◌, not, is_some, option_map, length, Some, refl, rules, arith, sym, ap, ◌∙◌}
use Rattle.std.proofs.lemmas.Bool.Decides.{nat_tests}
use Rattle.files.specs.Pieces.{piece_count, wrong_from}
use Rattle.std.specs.Result.{result_err}
use Rattle.std.specs.Slice.Iter.{chunks_exact_size}
use Rattle.std.proofs.lemmas.Iterator.{YieldsList-from_map}
use Rattle.std.proofs.lemmas.Iterator.Consumers.{YieldsList-at}
use Rattle.std.proofs.lemmas.Iterator.Search.{position_from_yields_List}
use Rattle.files.proofs.Decoding.{YieldsList-from_chunks, chunks_wide}
use Rattle.files.proofs.pieces.check_pieces.Goals as goal

pub position-requires-clause-can : goal.position-requires-clause-can
position-requires-clause-can g c =
    let width = ap chunks_exact_size c.map.ensures.source ∙ c.chunks_exact.ensures.size in (
      rw width c.requires.wide,
      record { at = λ xs t q x u y f k. c.requires.takes q.now x (k.1.1 ∙ chunks_wide _ t xs y ∙ width) },
    )

pub returns : goal.returns
returns g c = λ decode reads.
    let chunks = YieldsList-at c.map.ensures.source (YieldsList-from_chunks c.args.width c.args.section.bytes.now c.requires.wide c.chunks_exact.ensures.size c.chunks_exact.ensures.rest) in
    let answers = YieldsList-from_map _ decode chunks c.map.ensures.closure (λ x r q k. (k.met.1, reads x.now r (record { shown = x; shows = refl; says = record { met = k.met.0 } }))) in
    let found = position_from_yields_List (λ answer. not (is_some answer)) _ _ c.position.result c.position.ensures.ran answers (λ x b q k. search rules) in
    let placed : result_err c.map_or.result ≡ option_map (λ i. c.args.section.base + c.args.width * i) c.position.result = search rules in
    let counted : piece_count c.args.width c.args.most c.args.section.bytes.now ≡ Some (length c.args.section.bytes.now / c.args.width) = grind (arith, nat_tests) in
    placed
    ∙ ap (option_map (λ i. c.args.section.base + c.args.width * i)) found
    ∙ sym (ap (λ n. wrong_from n decode c.args.width c.args.section.base c.args.section.bytes.now) counted)
