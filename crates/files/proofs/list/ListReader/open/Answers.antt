use Rattle.std.proofs.Common.{◌≡◌, ℕ, ◌<◌, get_or, None, refl, rules, ◌∙◌}
use Rattle.files.proofs.Walks.{ok_from_none}
use Rattle.files.proofs.Writes.{file_again}
use Rattle.files.proofs.Written.{written_read}
use Rattle.files.specs.Directory.{dir_fault}
use Rattle.files.proofs.list.ListReader.open.Goals as goal

pub returns-in_err-count-clause-every : goal.returns-in_err-count-clause-every
returns-in_err-count-clause-every c = λ ls e h.
    let none = c.line_count.ensures.fault ∙ (written_read c.args.bytes.now ls e h).0 in
    let z = c.in_err-count.ensures.variant ∙ ok_from_none c.line_count.result none in
    absurd (cc)

pub returns-clause-written : goal.returns-clause-written
returns-clause-written c =
    let f : (n : ℕ) → get_or c.args.bytes.now n 0 < 256 = λ n. search rules in
    let none : dir_fault c.args.bytes.now ≡ None = search rules in
    λ _. file_again c.args.bytes.now f none

pub returns-clause-every : goal.returns-clause-every
returns-clause-every c = λ ls e h. (refl, (written_read c.args.bytes.now ls e h).1)
