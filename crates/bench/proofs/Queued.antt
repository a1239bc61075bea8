-- The places of a queue, among those of all processes.
use Rattle.std.proofs.Common.{◌≡◌, ℕ, ◌+◌, ◌-◌, ◌*◌, ◌/◌, ◌%◌, ◌<◌, ◌≤◌, Bool, false, not, ◌&&◌, ltb, List, length, get_or, take, drop, sym, ap, ◌∙◌, arith}
use Rattle.std.specs.List.{position_from}
use Rattle.std.specs.Option.{option_map}
use Rattle.std.proofs.lemmas.Bool.{lt-ltb, le-ltb}
use Rattle.std.proofs.lemmas.List.{get_or-take, get_or-drop, length-take-le, length-drop}
use Rattle.files.specs.Program.{Program}
use Rattle.queue.specs.Fifo.{Kind}
use Rattle.bench.specs.Play.{fits, wrong_at, lowest}
use Rattle.bench.proofs.Lowest.{first_is_lowest, lowest_front}

module _ {M : Type 0} (k : Kind M) (s : Program) (lengths : List ℕ) (ms : List M) (p : ℕ) where
  abbrev wrong : M → Bool
  wrong m = not (fits s (k.means m))

  -- place i of process p
  at_place : (i : ℕ) → i < 8 → wrong_at k s lengths ms (8 * p + i) ≡ ltb i (get_or lengths p 0) && wrong (get_or ms (8 * p + i) k.zero)
  at_place i w =
      let r : (8 * p + i) % 8 ≡ i = omega arith in
      let q : (8 * p + i) / 8 ≡ p = omega arith in
      let m = get_or ms (8 * p + i) k.zero in
      ap (λ x. ltb x (get_or lengths ((8 * p + i) / 8) 0) && wrong m) r ∙ ap (λ x. ltb i (get_or lengths x 0) && wrong m) q

  -- it holds a message, or stands behind those
  held : (n i : ℕ) → n ≡ get_or lengths p 0 → n ≤ 8 → i < n → wrong (get_or (take n (drop (8 * p) ms)) i k.zero) ≡ wrong_at k s lengths ms (8 * p + i)
  held n i e w h =
      let more : i < get_or lengths p 0 = omega arith in
      ap wrong (get_or-take n (drop (8 * p) ms) i k.zero h ∙ get_or-drop (8 * p) ms i k.zero)
      ∙ sym (ap (λ b. b && wrong (get_or ms (8 * p + i) k.zero)) (lt-ltb i (get_or lengths p 0) more))
      ∙ sym (at_place i (omega arith))

  behind : (n j : ℕ) → n ≡ get_or lengths p 0 → 8 * p + n ≤ j → j < 8 * p + 8 → wrong_at k s lengths ms j ≡ false
  behind n j e a b =
      let i = j - 8 * p in
      let place : j ≡ 8 * p + i = omega arith in
      ap (wrong_at k s lengths ms) place
      ∙ at_place i (omega arith)
      ∙ ap (λ x. x && wrong (get_or ms (8 * p + i) k.zero)) (le-ltb i (get_or lengths p 0) (omega arith))

  -- the first wrong message of its queue
  pub in_queue : (n : ℕ) → n ≡ get_or lengths p 0 → n ≤ 8 → 8 * p + 8 ≤ length ms → option_map (λ i. 8 * p + i) (position_from (λ m. not (fits s (k.means m))) 0 (take n (drop (8 * p) ms))) ≡ lowest (wrong_at k s lengths ms) 8 (8 * p)
  in_queue n e w l =
      let test = wrong_at k s lengths ms in
      let queued = take n (drop (8 * p) ms) in
      let long : length queued ≡ n = length-take-le n (drop (8 * p) ms) (omega (arith, length-drop (8 * p) ms)) in
      let start : 8 * p + 0 ≡ 8 * p = omega arith in
      let first = first_is_lowest test (λ m. not (fits s (k.means m))) queued (8 * p) 0 k.zero (λ i h. held n i e w (omega arith) ∙ ap (λ x. test (x + i)) (sym start)) in
      let front = lowest_front test n 8 (8 * p) w (λ j a b. behind n j e a b) in
      first ∙ ap (λ x. lowest test x (8 * p + 0)) long ∙ ap (lowest test n) start ∙ sym front
