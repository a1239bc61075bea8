use Rattle.std.proofs.Common.{Ok, refl, ap, ◌∙◌}
use Rattle.std.proofs.lemmas.Iterator.{items_from_collect}
use Rattle.std.proofs.lemmas.Iterator.Consumers.{YieldsList-at, YieldsList-from_filter_map}
use Rattle.std.specs.Slice.Iter.{chunks_exact_size}
use Rattle.files.proofs.Decoding.{YieldsList-from_chunks, chunks_wide}
use Rattle.files.proofs.pieces.read_pieces.Goals as goal

pub collect-requires-clause-can : goal.collect-requires-clause-can
collect-requires-clause-can g c =
    let width = ap chunks_exact_size c.filter_map.ensures.source ∙ c.chunks_exact.ensures.size in (
      rw width c.requires.wide,
      tt,
      record { at = λ xs t q x u y f k. c.requires.takes q.now x (k.1.1 ∙ chunks_wide _ t xs y ∙ width) },
    )

pub returns : goal.returns
returns g c = λ decode reads.
    let chunks = YieldsList-at c.filter_map.ensures.source (YieldsList-from_chunks c.args.width c.args.bytes.now c.requires.wide c.chunks_exact.ensures.size c.chunks_exact.ensures.rest) in
    items_from_collect {E = ⊥} (Ok c.in_ok-collect.field-0) c.in_ok-collect.ensures.ran (YieldsList-from_filter_map _ decode chunks c.filter_map.ensures.closure (λ x r q k. (k.met.1, reads x.now r (record { shown = x; shows = refl; says = record { met = k.met.0 } }))))
