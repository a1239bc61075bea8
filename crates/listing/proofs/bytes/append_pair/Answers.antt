use Rattle.std.proofs.Common.{◌≡◌, ◌+◌, length, ap, ◌∙◌, arith}
use Rattle.files.specs.Writer.{two_bytes}
use Rattle.listing.specs.Laid.{laid}
use Rattle.listing.proofs.Laid.{laid_more}
use Rattle.listing.proofs.bytes.append_pair.Goals as goal

pub returns : goal.returns
returns c =
    let at = c.args.at in
    let x = two_bytes c.args.offset in
    let y = two_bytes c.args.size in
    let place = c.args.place.now in
    let middle = c.append-middle.result in
    let m : middle ≡ at + 2 = c.append-middle.ensures.end ∙ ap (λ l. at + length l) c.two_bytes.ensures in
    let e : c.append.result ≡ middle + 2 = c.append.ensures.end ∙ ap (λ l. middle + length l) c.two_bytes-2.ensures in
    let first : c.append-middle.new.place ≡ laid at x place = c.append-middle.ensures.written ∙ ap (λ l. laid at l place) c.two_bytes.ensures in
    record {
      end = omega arith;
      written = c.append.ensures.written
          ∙ ap (λ l. laid middle l c.append-middle.new.place) c.two_bytes-2.ensures
          ∙ ap (laid middle y) first
          ∙ laid_more at middle x y place m (omega arith);
    }
