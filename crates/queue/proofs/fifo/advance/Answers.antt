use Rattle.std.proofs.Common.{◌≡◌, ◌-◌, ◌<◌, List, [], ◌∷◌, ◌++◌, length, take, drop, set, ap, ◌∙◌, arith, tests}
use Rattle.std.proofs.lemmas.List.{set_at, length_push}
use Rattle.queue.specs.Fifo.{advanced}
use Rattle.queue.proofs.fifo.advance.Goals as goal

turned : {X : Type 0} (z : X) (xs ys : List X) → 0 < length ys → length ys ≡ length xs → ys ≡ drop 1 xs ++ take 1 xs → set ys (length ys - 1) z ≡ advanced z xs
turned z [] ys h l e = absurd (omega arith)
turned z (x ∷ xs) ys h l e =
    let n = length_push xs x in
    ap (λ v. set v (length ys - 1) z) e ∙ set_at xs x [] z (length ys - 1) (omega arith)

pub returns-then-not-is_empty : goal.returns-then-not-is_empty
returns-then-not-is_empty g c =
    turned c.args.z c.args.xs.now c.rotate_left.new.self (omega (arith, tests)) c.rotate_left.ensures.len c.rotate_left.ensures.after
