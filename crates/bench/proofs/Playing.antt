-- What play does to the fields of a bench and to the records, as the definition of a move has it.
use Rattle.std.proofs.Common.{◌≡◌, ℕ, zero, suc, ◌+◌, ◌-◌, ◌*◌, ◌<◌, ◌≤◌, List, [], ◌∷◌, ◌++◌, length, get_or, take, drop, set, Some, None, Ok, Err, Result, MatchResult, IsErrAnd, sym, refl, ap, ◌∙◌, mul-le-mul_left, mul-add, arith, lit≤}
use borrow.Rule.Slice.PartMut.{put_mid}
use Rattle.std.proofs.lemmas.List.{take_at, drop-drop, take-append-drop, length-take}
use Rattle.std.proofs.lemmas.Bool.{cond_both}
use Rattle.files.specs.Program.{Program}
use Rattle.queue.specs.Fifo.{Kind}
use Rattle.rules.specs.declared.act.Deed.{Deed}
use Rattle.bench.specs.declared.perform.Hindrance.{Hindrance}
use Rattle.bench.specs.Deeds.{deed_of}
use Rattle.bench.specs.Perform.{Sight, performed, Did}
use Rattle.bench.specs.Play.{played, unready, unless, by_deed, by_performed, enacted, done}
use Rattle.rules.specs.Rulebook.{Rulebook, room}
use Rattle.bench.specs.Table.{Table, part, on_part}

did_ok : {M : Type 0} (o : Result (Sight M) Hindrance) (n : ℕ) (m m' : List ℕ) (xs xs' : List M) → Did o m xs (Ok n) m' xs' → o ≡ Ok (record { count = n; memory = m'; places = xs' })
did_ok (Ok v) n m m' xs xs' h =
    let a = h.0 in
    let b = h.1 in
    let c = h.2 in
    let d : n ≡ v.count = cc in
    sym (ap Ok (ap (λ i. record { count = i; memory = m'; places = xs' }) d ∙ ap (λ i. record { count = v.count; memory = i; places = xs' }) b ∙ ap (λ i. record { count = v.count; memory = v.memory; places = i }) c))
did_ok (Err e) n m m' xs xs' h = let a = h.0 in let z : ◌≡◌ {A = ℕ} 0 1 = cc in absurd (omega arith)

did_err : {M : Type 0} (o : Result (Sight M) Hindrance) (e : Hindrance) (m m' : List ℕ) (xs xs' : List M) → Did o m xs (Err e) m' xs' → (o ≡ Err e) × (m' ≡ m) × (xs' ≡ xs)
did_err (Ok v) e m m' xs xs' h = let a = h.0 in let z : ◌≡◌ {A = ℕ} 0 1 = cc in absurd (omega arith)
did_err (Err f) e m m' xs xs' h = let a = h.0 in (cc, h.1, h.2)

module _ {M : Type 0} (k : Kind M) (u : Rulebook M) (s : Program) (t : Table M) (n : ℕ) (d : Deed) (count : ℕ) (m : List ℕ) (xs : List M)
    (ready : None ≡ unready k u s t) (deed : Some d ≡ deed_of s t.states n)
    (counted : count ≡ get_or t.lengths d.process 0) (stored : m ≡ t.memory) (placed : xs ≡ part u d.process t.records) where
  moved : (o : Result (Sight M) Hindrance) → performed k u d.act count m xs ≡ o → played k u s t n ≡ by_performed u t n d o
  moved o e =
      ap (λ f. unless f t (by_deed k u t n (deed_of s t.states n))) (sym ready)
      ∙ ap (by_deed k u t n) (sym deed)
      ∙ ap (by_performed u t n d) (ap (λ i. performed k u d.act i t.memory (part u d.process t.records)) (sym counted) ∙ ap (λ i. performed k u d.act count i (part u d.process t.records)) (sym stored) ∙ ap (performed k u d.act count m) (sym placed) ∙ e)

  pub played_ok : (c : ℕ) (m' : List ℕ) (xs' : List M) → Did (performed k u d.act count m xs) m xs (Ok c) m' xs' → played k u s t n ≡ done (enacted u t d (record { count = c; memory = m'; places = xs' }))
  played_ok c m' xs' h = moved (Ok (record { count = c; memory = m'; places = xs' })) (did_ok (performed k u d.act count m xs) c m m' xs xs' h)

  pub played_not : (e : Hindrance) (m' : List ℕ) (xs' : List M) → Did (performed k u d.act count m xs) m xs (Err e) m' xs' → (played k u s t n ≡ by_performed u t n d (Err e)) × (m' ≡ t.memory) × (xs' ≡ part u d.process t.records)
  played_not e m' xs' h =
      let g = did_err (performed k u d.act count m xs) e m m' xs xs' h in
      (moved (Err e) g.0, g.1 ∙ stored, g.2 ∙ placed)

-- a write into the front of an array
pub take_set_any : {X : Type 0} (n : ℕ) (xs : List X) (i : ℕ) (y : X) → take n (set xs i y) ≡ set (take n xs) i y
take_set_any zero xs i y = refl
take_set_any (suc n) [] i y = refl
take_set_any (suc n) (x ∷ xs) zero y = refl
take_set_any (suc n) (x ∷ xs) (suc i) y = ap (λ l. x ∷ l) (take_set_any n xs i y)

-- places as the code cuts them, and what it leaves of the records
pub part_is : {M : Type 0} (u : Rulebook M) (p a e : ℕ) (ms : List M) → a ≡ room u * p → e ≡ a + room u → take (e - a) (drop a ms) ≡ part u p ms
part_is u p a e ms h l =
    let r : e - a ≡ room u = omega arith in
    ap (λ i. take i (drop a ms)) r ∙ ap (λ i. take (room u) (drop i ms)) h

pub on_part_is : {M : Type 0} (u : Rulebook M) (p a e : ℕ) (ms xs : List M) → a ≡ room u * p → e ≡ a + room u → put_mid a (e - a) ms xs ≡ on_part u p (λ _. xs) ms
on_part_is u p a e ms xs h l =
    let r : e - a ≡ room u = omega arith in
    let b : drop (e - a) (drop a ms) ≡ drop (room u * p + room u) ms = ap (λ i. drop i (drop a ms)) r ∙ drop-drop (room u) a ms ∙ ap (λ i. drop (i + room u) ms) h in
    cc

pub on_part_same : {M : Type 0} (u : Rulebook M) (p : ℕ) (ms : List M) → on_part u p (λ _. part u p ms) ms ≡ ms
on_part_same u p ms =
    let a = drop-drop (room u) (room u * p) ms in
    let b = take-append-drop (room u) (drop (room u * p) ms) in
    let d = take-append-drop (room u * p) ms in
    cc

-- the places of a process are among those needed
pub part_within : (r p n l : ℕ) → p < n → r * n ≤ l → r * p + r ≤ l
part_within r p n l h w =
    let a : r * (p + 1) ≤ r * n = mul-le-mul_left r (omega arith) in
    let b = mul-add r p 1 in
    omega arith

pub get_or_set_within : (xs : List ℕ) (i y n : ℕ) → y ≤ n → ((p : ℕ) → get_or xs p 0 ≤ n) → (p : ℕ) → get_or (set xs i y) p 0 ≤ n
get_or_set_within [] i y n h a p = a p
get_or_set_within (x ∷ xs) zero y n h a zero = h
get_or_set_within (x ∷ xs) zero y n h a (suc p) = a (suc p)
get_or_set_within (x ∷ xs) (suc i) y n h a zero = a zero
get_or_set_within (x ∷ xs) (suc i) y n h a (suc p) = get_or_set_within xs i y n h (λ q. a (suc q)) p

-- the front of an array whose front has been written
pub front_written : (n : ℕ) (v : ℕ) (xs ys : List ℕ) → n ≡ v → length ys ≡ n → take v (ys ++ drop n xs) ≡ ys
front_written n v xs ys e l = take_at ys (drop n xs) v (l ∙ e)

-- two tables with equal fields
pub after_is : {M : Type 0} (t v : Table M) → t.states ≡ v.states → t.memory ≡ v.memory → t.lengths ≡ v.lengths → t.records ≡ v.records → t ≡ v
after_is t v a b c d =
    ap (λ i. record { states = i; memory = t.memory; lengths = t.lengths; records = t.records }) a
    ∙ ap (λ i. record { states = v.states; memory = i; lengths = t.lengths; records = t.records }) b
    ∙ ap (λ i. record { states = v.states; memory = v.memory; lengths = i; records = t.records }) c
    ∙ ap (λ i. record { states = v.states; memory = v.memory; lengths = v.lengths; records = i }) d

pub room_small : {M : Type 0} (u : Rulebook M) → room u ≤ 8
room_small u = cond_both u.buffered 8 0 (λ n. n ≤ 8) (λ e. lit≤ tt) (λ e. lit≤ tt)

-- no part has more than eight places
pub part_short : {M : Type 0} (u : Rulebook M) (n : ℕ) (xs : List M) → n ≡ room u → length (take n xs) ≤ 8
part_short u n xs e = let r = room_small u in let l = length-take n xs in omega arith

-- what `map_err` leaves, and what it changes
pub kept_ok : {A E D : Type 0} (r : Result A E) (w : Result A D) (P : E → D → Type 0) (x : A) → MatchResult r (λ y. w ≡ Ok y) (λ e. IsErrAnd w (P e)) → w ≡ Ok x → r ≡ Ok x
kept_ok (Ok y) w P x h e = let z = sym h ∙ e in cc
kept_ok (Err y) w P x h e = absurd (rw e at h)

pub changed_err : {A E D : Type 0} (f : E → D) (r : Result A E) (w : Result A D) (P : E → D → Type 0) (d : D) → MatchResult r (λ y. w ≡ Ok y) (λ e. IsErrAnd w (P e)) → ((e : E) (y : D) → P e y → y ≡ f e) → w ≡ Err d → (e : E) × (r ≡ Err e) × (d ≡ f e)
changed_err f (Ok y) w P d h g e = let z = sym h ∙ e in cc
changed_err f (Err y) w P d h g e = (y, refl, g y d (rw e at h))
