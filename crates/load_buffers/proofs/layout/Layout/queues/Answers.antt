use Rattle.std.proofs.Common.{◌≡◌, ℕ, zero, suc, ◌+◌, ◌-◌, ◌*◌, ◌/◌, ◌<◌, List, [], length, get_or, take, drop, arith}
use Rattle.std.proofs.lemmas.List.{drop-drop, length-drop, take_all}
use Rattle.std.specs.Simd.{first_chunks}
use Rattle.load_buffers.specs.Rows.{queue_at}
use Rattle.load_buffers.proofs.layout.Layout.queues.Goals as goal

chunk_at : (n k i : ℕ) (xs : List ℕ) → i < k → get_or (first_chunks n k xs) i [] ≡ take n (drop (n * i) xs)
chunk_at n zero i xs h = absurd (omega arith)
chunk_at n (suc k) zero xs h = let e : n * 0 ≡ 0 = omega arith in rw e
chunk_at n (suc k) (suc i) xs h =
    let e : n * suc i ≡ n + n * i = omega arith in
    rw (e, ← drop-drop (n * i) n xs) (chunk_at n k i (drop n xs) (omega arith))

pub returns-clause-each : goal.returns-clause-each
returns-clause-each c = λ p h.
    let at = c.queue_at.result in
    let row = c.args.row.now in
    let xs = drop at row in
    let whole : take (length row - at) xs ≡ xs = take_all (length row - at) xs (simp length-drop (omega arith)) in
    let long : length xs / 10 ≡ c.args.self.sizes.processes = simp length-drop (omega arith) in
    let there : at + 10 * p ≡ queue_at c.args.self.sizes p = omega arith in
    rw (c.as_chunks.ensures.front, whole, chunk_at 10 (length xs / 10) p xs (omega arith), drop-drop (10 * p) at row, there)
