use Rattle.std.proofs.Common.{◌≡◌, ℕ, ◌+◌, ◌*◌, ◌≤◌}
use Rattle.files.specs.Directory.{walk}
use Rattle.files.proofs.directory.check_pairs.Given as goal

abbrev pub invariant-loop-i : goal.invariant-loop-i
invariant-loop-i l =
    (l.due ≤ 2 + 4 * l.count + 65536 * l.i)
    × ((k : ℕ) → k + l.i ≡ l.count → walk k (2 + 4 * l.i) l.due l.bytes ≡ walk l.count 2 (2 + 4 * l.count) l.bytes)
