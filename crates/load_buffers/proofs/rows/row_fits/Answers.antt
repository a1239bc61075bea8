use Rattle.std.proofs.Common.{refl, ap, ◌∙◌}
use mathlib.Core.Bool.{false≢true}
use Rattle.files.specs.Program.{program}
use Rattle.load_buffers.specs.Rows.{row_length}
use Rattle.load_buffers.specs.Fronts.{front_from, memory_from, states_from}
use Rattle.load_buffers.proofs.rows.row_fits.Goals as goal

pub returns-else-front_fits : goal.returns-else-front_fits
returns-else-front_fits c =
    let s = program c.args.system.now in
    let e = c.if-front_fits.false in (
      λ t. absurd (false≢true (rw e at t)),
      λ g. c.front_fits.ensures.1 (front_from s c.args.row.now c.front_length.result c.front_length.ensures.value c.args.most g),
    )

pub returns-then-front_fits : goal.returns-then-front_fits
returns-then-front_fits c =
    let s = program c.args.system.now in
    let row = c.args.row.now in
    let sizes = c.of-layout.ensures in
    let here = c.front_length.ensures.value in
    let f = c.if-front_fits.ensures.0 refl in (
      λ e. record {
        long = c.if-row-row_length.false ∙ c.row_length.ensures.value ∙ ap row_length sizes;
        states = states_from s row c.front_length.result here f;
        memory = memory_from s row c.front_length.result here f;
        queues = rw sizes at (c.queues_fit.ensures.0 e);
      },
      λ g. c.queues_fit.ensures.1 (rw sizes g.queues),
    )
