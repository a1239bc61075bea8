use Rattle.std.proofs.Common.{◌+◌, ◌-◌, length, refl, ap, ◌∙◌, arith}
use borrow.Rule.Slice.PartMut.{put_mid}
use Rattle.listing.proofs.Laid.{laid_part}
use Rattle.listing.proofs.bytes.append.Goals as goal

pub returns : goal.returns
returns c =
    let at = c.args.at in
    let x = c.args.bytes.now in
    let place = c.args.place.now in
    let k = at + length x - at in
    record { end = refl; written = ap (put_mid at k place) c.copy_from_slice.ensures.after ∙ laid_part at k x place (omega arith) }
