-- The queues of storable rows and of lines.
use Rattle.std.specs.Prelude.{◌≡◌, ℕ, zero, suc, ◌+◌, ◌-◌, ◌*◌, ◌<◌, ◌≤◌, true, List, [], ◌∷◌, ◌++◌, length, take, drop, replicate, slice_index, slice_index_or}
use Rattle.std.proofs.Math.Path.{refl, sym, ap}
use Rattle.std.proofs.Common.{◌∙◌, arith}
use Rattle.std.proofs.lemmas.List.{drop_at, drop-drop, ext_get_or, get_or_append_left, get_or-append_right, get_or-drop, get_or-replicate, get_or-take, length-append, length-drop, length-replicate, length-take, length-take-le, nil_from_length, take-append-drop, take_at}
use Rattle.std.proofs.lemmas.Bool.{ltb-true, lt-ltb}
use Rattle.std.proofs.lemmas.Bool.Decides.{nat_tests}
use Rattle.files.specs.declared.sizes.Sizes.{Sizes}
use Rattle.load_buffers.specs.Lines.{in_use}
use Rattle.load_buffers.specs.Messages.{MessageFits}
use Rattle.load_buffers.specs.Reading.{is_message, padded, queue, spread}
use Rattle.load_buffers.specs.Rows.{QueueFits}
use Rattle.load_buffers.specs.Passing.{Passing, passing_at, passing_from, passing_in, passing_out}
use Rattle.load_buffers.specs.Slots.{Reads}

module _ (z : Sizes) where
  fits_from : (b : ℕ) → is_message z b ≡ true → MessageFits z b
  fits_from b h = record { own = grind (arith, nat_tests); variable = grind (arith, nat_tests); value = grind (arith, nat_tests) }

  fits_to : (b : ℕ) → MessageFits z b → is_message z b ≡ true
  fits_to b h = let o = h.own in let x = h.variable in let v = h.value in grind (arith, nat_tests)

  abbrev Messages : ℕ → List ℕ → Type 0
  Messages n ms = Passing (replicate n (is_message z)) ms

  messages_at : (n i : ℕ) (ms : List ℕ) → Messages n ms → i < n → MessageFits z (slice_index ms i)
  messages_at n i ms p h =
      let l = length-replicate n (is_message z) in
      let t = passing_at (replicate n (is_message z)) ms i (is_message z) p (omega arith) in
      fits_from (slice_index ms i) (rw (get_or-replicate n i (is_message z) (is_message z) h) at t)

  messages_from : (n : ℕ) (ms : List ℕ) → length ms ≡ n → ((i : ℕ) → i < n → MessageFits z (slice_index ms i)) → Messages n ms
  messages_from n ms e h =
      let l = length-replicate n (is_message z) in
      passing_from (replicate n (is_message z)) ms (e ∙ sym l)
      (λ i d k. let m : i < n = omega arith in rw (get_or-replicate n i (is_message z) d m) (fits_to (slice_index ms i) (h i m)))

  -- a queue that has only its messages
  module _ (c : ℕ) (ms : List ℕ) (n : length ms ≡ c) (few : c ≤ 8) where
    ten : length (padded (c ∷ ms)) ≡ 10
    ten = simp (length-append, length-replicate) (omega arith)

    tail_at : (i : ℕ) → i < c → slice_index (padded (c ∷ ms)) (1 + i) ≡ slice_index ms i
    tail_at i h =
        let e : 1 + i ≡ suc i = omega arith in
        rw e (get_or_append_left ms (replicate (10 - suc (length ms)) 0) 0 i (omega arith))

    tail_past : (i : ℕ) → c ≤ i → i < 9 → slice_index (padded (c ∷ ms)) (1 + i) ≡ 0
    tail_past i h k =
        let e : 1 + i ≡ suc i = omega arith in
        rw e (get_or-append_right ms (replicate (10 - suc (length ms)) 0) c i 0 n h ∙ get_or-replicate (10 - suc (length ms)) (i - c) 0 0 (omega arith))

    queue_made : Messages c ms → QueueFits z 8 (padded (c ∷ ms))
    queue_made p = record { count = few; messages = λ i h. rw (tail_at i h) (messages_at c i ms p h); unused = tail_past }

    use_of : (m : ℕ) (qs : List ℕ) → in_use (suc m) (padded (c ∷ ms) ++ qs) ≡ (c ∷ ms) ++ in_use m qs
    use_of m qs =
        let t : take 10 (padded (c ∷ ms) ++ qs) ≡ padded (c ∷ ms) = take_at (padded (c ∷ ms)) qs 10 ten in
        let d : drop 10 (padded (c ∷ ms) ++ qs) ≡ qs = drop_at (padded (c ∷ ms)) qs 10 ten in
        let u : take (suc c) (padded (c ∷ ms)) ≡ c ∷ ms = ap (λ x. c ∷ x) (take_at ms (replicate (10 - suc (length ms)) 0) c n) in
        ap (λ x. take (suc c) x ++ in_use m (drop 10 (padded (c ∷ ms) ++ qs))) t ∙ ap (λ x. take (suc c) (padded (c ∷ ms)) ++ in_use m x) d ∙ ap (λ x. x ++ in_use m qs) u

    spread_of : (m : ℕ) (w : List ℕ) → spread (suc m) ((c ∷ ms) ++ w) ≡ padded (c ∷ ms) ++ spread m w
    unfolding spread
    spread_of m w = rw (take_at ms w c n, drop_at ms w c n)

  -- the messages of a queue
  module _ (c : ℕ) (q : List ℕ) (long : length q ≡ 9) (h : QueueFits z 8 (c ∷ q)) where
    unused_zero : (i : ℕ) → c ≤ i → i < 9 → slice_index q i ≡ 0
    unused_zero i k m = let o : 1 + i ≡ suc i = omega arith in rw o at (h.unused i k m)

    front_fits : (i : ℕ) → i < c → MessageFits z (slice_index (take c q) i)
    front_fits i k = let o : 1 + i ≡ suc i = omega arith in rw (get_or-take c q i 0 k) (rw o at (h.messages i k))

    rest_zeros : drop c q ≡ replicate (10 - suc c) 0
    rest_zeros =
        let few = h.count in
        let l = length-drop c q in
        ext_get_or 0 (drop c q) (replicate (10 - suc c) 0) (simp length-replicate (omega arith))
        (λ i k. get_or-drop c q i 0 ∙ unused_zero (c + i) (omega arith) (omega arith) ∙ sym (get_or-replicate (10 - suc c) i 0 0 (omega arith)))

  queue_shape : (q : List ℕ) → length q ≡ 10 → QueueFits z 8 q → (ms : List ℕ) × ((length ms ≤ 8) × Messages (length ms) ms × (q ≡ padded (length ms ∷ ms)))
  queue_shape [] e h = absurd (omega arith)
  queue_shape (c ∷ q) e h =
      let few : c ≤ 8 = h.count in
      let ms = take c q in
      let n : length ms ≡ c = length-take-le c q (omega arith) in
      let whole : q ≡ ms ++ replicate (10 - suc c) 0 = sym (take-append-drop c q) ∙ ap (λ x. ms ++ x) (rest_zeros c q (omega arith) h) in
      (ms, (omega arith, rw n (messages_from c ms n (front_fits c q (omega arith) h)), rw n (ap (λ x. c ∷ x) whole)))

  -- n queues, one behind the other
  abbrev pub Held : ℕ → List ℕ → Type 0
  Held n qs = (length qs ≡ 10 * n) × ((p : ℕ) → p < n → QueueFits z 8 (take 10 (drop (10 * p) qs)))

  held_at : (n : ℕ) (q qs : List ℕ) (p : ℕ) → length q ≡ 10 → QueueFits z 8 q → Held n qs → p < suc n → QueueFits z 8 (take 10 (drop (10 * p) (q ++ qs)))
  held_at n q qs zero e f h k = rw (take_at q qs 10 e) f
  held_at n q qs (suc p) e f h k =
      let m : 10 * suc p ≡ 10 + 10 * p = omega arith in
      let d : drop (10 + 10 * p) (q ++ qs) ≡ drop (10 * p) qs = sym (drop-drop (10 * p) 10 (q ++ qs)) ∙ ap (λ x. drop (10 * p) x) (drop_at q qs 10 e) in
      rw (m, d) (h.1 p (omega arith))

  held_more : (n : ℕ) (q qs : List ℕ) → length q ≡ 10 → QueueFits z 8 q → Held n qs → Held (suc n) (q ++ qs)
  held_more n q qs e f h = (simp length-append (omega arith), λ p k. held_at n q qs p e f h k)

  held_first : (n : ℕ) (qs : List ℕ) → Held (suc n) qs → QueueFits z 8 (take 10 qs)
  held_first n qs h = h.1 0 (omega arith)

  held_rest : (n : ℕ) (qs : List ℕ) → Held (suc n) qs → Held n (drop 10 qs)
  held_rest n qs h = (
    simp length-drop (omega (arith, h.0)),
    λ p k.
        let m : 10 * suc p ≡ 10 + 10 * p = omega arith in
        let f : QueueFits z 8 (take 10 (drop (10 + 10 * p) qs)) = rw m at (h.1 (suc p) (omega arith)) in
        rw (drop-drop (10 * p) 10 qs) f,
  )

  -- what fills the slots of queues is what is in use of their bytes
  pub queues_from : (n : ℕ) (l : List ℕ) → Reads (replicate n (queue z)) l → Held n (spread n l) × (in_use n (spread n l) ≡ l)
  unfolding spread
  queues_from zero [] r = ((refl, λ p k. absurd (omega arith)), refl)
  queues_from zero (b ∷ l) r = absurd r
  queues_from (suc n) [] r = absurd r
  queues_from (suc n) (c ∷ l) r =
      let few = ltb-true c 9 r.0 in
      let o = passing_out (replicate c (is_message z)) (replicate n (queue z)) l c (length-replicate c (is_message z)) r.1 in
      let ms = take c l in
      let m : length ms ≡ c = length-take-le c l o.0 in
      let i = queues_from n (drop c l) o.2 in
      let u = use_of c ms m (omega arith) n (spread n (drop c l)) in (
        held_more n (padded (c ∷ ms)) (spread n (drop c l)) (ten c ms m (omega arith)) (queue_made c ms m (omega arith) o.1) i.0,
        u ∙ ap (λ x. (c ∷ ms) ++ x) i.1 ∙ ap (λ x. c ∷ x) (take-append-drop c l),
      )

  pub queues_to : (n : ℕ) (qs : List ℕ) → Held n qs → Reads (replicate n (queue z)) (in_use n qs) × (spread n (in_use n qs) ≡ qs)
  unfolding spread
  queues_to zero qs h = (tt, sym (nil_from_length qs h.0))
  queues_to (suc n) qs h =
      let long : 10 ≤ length qs = omega (arith, h.0) in
      let shape = queue_shape (take 10 qs) (length-take-le 10 qs long) (held_first n qs h) in
      let ms = shape.0 in
      let c = length ms in
      let f = shape.1 in
      let rest = drop 10 qs in
      let whole : qs ≡ padded (c ∷ ms) ++ rest = sym (take-append-drop 10 qs) ∙ ap (λ x. x ++ rest) f.2 in
      let i = queues_to n rest (held_rest n qs h) in
      let u : in_use (suc n) qs ≡ (c ∷ ms) ++ in_use n rest = ap (in_use (suc n)) whole ∙ use_of c ms refl f.0 n rest in
      let r : Reads (replicate (suc n) (queue z)) ((c ∷ ms) ++ in_use n rest) = (lt-ltb c 9 (omega (arith, f.0)), passing_in (replicate c (is_message z)) (replicate n (queue z)) ms (in_use n rest) f.1 i.0) in
      (rw u r, ap (spread (suc n)) u ∙ spread_of c ms refl f.0 n (in_use n rest) ∙ ap (λ x. padded (c ∷ ms) ++ x) i.1 ∙ sym whole)

  pub use_short : (n : ℕ) (qs : List ℕ) → Held n qs → length (in_use n qs) ≤ 9 * n
  use_short zero qs h = omega arith
  use_short (suc n) qs h =
      let i = use_short n (drop 10 qs) (held_rest n qs h) in
      let c : slice_index_or qs 0 0 ≤ 8 = rw (get_or-take 10 qs 0 0 (omega arith)) at (held_first n qs h).count in
      simp (length-append, length-take) (omega arith)
