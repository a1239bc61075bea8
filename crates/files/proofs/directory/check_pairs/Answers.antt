use Rattle.std.proofs.Common.{◌≡◌, suc, ◌+◌, ◌-◌, ◌*◌, arith, sym, ◌∙◌}
use Rattle.std.proofs.lemmas.Bool.Decides.{nat_tests}
use Rattle.std.proofs.lemmas.Result.{err_from_is_err_and}
use Rattle.files.proofs.Walks.{walk_done, walk_more}
use Rattle.files.proofs.directory.check_pairs.Goals as goal

pub returns-in_err-must : goal.returns-in_err-must
returns-in_err-must c =
    let k = c.args.count - c.loop-i.i - 1 in
    let e = walk_more k (2 + 4 * c.loop-i.i) c.loop-i.due c.args.bytes.now in
    let inv = c.loop-i.invariant.1 (suc k) (omega arith) in
    let f = c.in_err-must.ensures in
    let p = err_from_is_err_and c.from_residual.result c.from_residual.ensures.1 in
    rw (p.1, p.2) (grind (arith, nat_tests))

pub loop-i-preserved : goal.loop-i-preserved
loop-i-preserved c = (
  omega arith,
  λ k h.
      let e = walk_more k (2 + 4 * c.loop-i.i) c.loop-i.due c.args.bytes.now in
      let inv = c.loop-i.invariant.1 (suc k) (omega arith) in
      let p : 2 + 4 * (c.loop-i.i + 1) ≡ 2 + 4 * c.loop-i.i + 4 = omega arith in
      let f = c.in_ok-must.ensures in
      grind (arith, nat_tests),
)

pub returns : goal.returns
returns c = c.must-2.ensures ∙ sym (walk_done (2 + 4 * c.loop-i.i) c.loop-i.due c.args.bytes.now) ∙ c.loop-i.invariant.1 0 (omega arith)
