-- The deed of a number is the act of a move with that number.
use Rattle.std.proofs.Common.{◌≡◌, ℕ, zero, suc, ◌+◌, ◌-◌, ◌*◌, ◌/◌, ◌%◌, ◌<◌, ◌≤◌, Bool, true, false, cond, eqb, ltb, List, [], ◌∷◌, length, get_or, Some, None, Option, sym, refl, ap, ◌∙◌, arith}
use Rattle.std.proofs.lemmas.Bool.{eqb-true, eq-eqb, ltb-true, ltb-false, lt-ltb, le-ltb, cond-true, cond-false}
use Rattle.std.proofs.lemmas.Option.{slice_get-get_or}
use Rattle.std.specs.List.{slice_get}
use Rattle.files.specs.Program.{Program}
use Rattle.files.specs.declared.transition.Transition.{Transition}
use Rattle.machines.specs.Step.{Move, transition, propagate, delete, update, number_of, Leads}
use Rattle.rules.specs.declared.act.Act.{Act}
use Rattle.rules.specs.declared.act.Act.TheVariants.{Operate, Propagate, Delete, Update}
use Rattle.rules.specs.declared.act.Deed.{Deed}
use Rattle.bench.specs.Deeds.{by_found, staying, deed_of}
use Rattle.rules.specs.Rulebook.{Is}

-- a deed is the act of a move, of a process that there is
abbrev pub Moves : Program → List ℕ → ℕ → Deed → Type 0
Moves s states n d =
    (mv : Move) × ((number_of d.process mv ≡ n) × (d.process < length states) × Is s d.process (get_or states d.process 0) mv d.act d.state)

passed : {X : Type 0} (b : Bool) (o : Option X) (e : X) → cond b o None ≡ Some e → (b ≡ true) × (o ≡ Some e)
passed true o e h = (refl, h)
passed false o e h = let z : ◌≡◌ {A = ℕ} 0 1 = cc in absurd (omega arith)

split : {X Y : Type 0} (b : Bool) (x y r : X) → cond b x y ≡ r → (b ≡ true → x ≡ r → Y) → (b ≡ false → y ≡ r → Y) → Y
split true x y r h f g = f refl h
split false x y r h f g = g refl h

nth_found : {X : Type 0} (xs : List X) (i : ℕ) (x : X) → slice_get xs i ≡ Some x → (i < length xs) × ((d : X) → get_or xs i d ≡ x)
nth_found [] i x h = let z : ◌≡◌ {A = ℕ} 0 1 = cc in absurd (omega arith)
nth_found (y ∷ ys) zero x h = (omega arith, λ d. cc)
nth_found (y ∷ ys) (suc i) x h = let r = nth_found ys i x h in (omega arith, r.1)

leads : (s : Program) (n : ℕ) (t : Transition) → slice_get s.transitions n ≡ Some t → (q : ℕ) → t.before ≡ q → Leads s n t.process q t.operation t.after
leads s n t e q b =
    let r = nth_found s.transitions n t e in
    record { listed = r.0; entry = λ d. r.1 d ∙ ap (λ i. record { process = t.process; before = i; operation = t.operation; after = t.after }) b }

module _ (s : Program) (states : List ℕ) where
  stays : (p : ℕ) (a : Act) (d : Deed) → staying states p a ≡ Some d → (d ≡ record { process = p; act = a; state = get_or states p 0 }) × (p < length states)
  stays p a d h = let r = passed _ _ _ h in let e = r.1 in (cc, ltb-true p (length states) r.0)

  found : (n : ℕ) (o : Option Transition) → slice_get s.transitions n ≡ o → (d : Deed) → by_found states o ≡ Some d → Moves s states n d
  found n None e d h = let z : ◌≡◌ {A = ℕ} 0 1 = cc in absurd (omega arith)
  found n (Some t) e d h =
      let r = passed (ltb t.process (length states)) _ d h in
      let q = passed (eqb (get_or states t.process 0) t.before) _ d r.1 in
      let w = q.1 in
      let z : d ≡ record { process = t.process; act = Operate t.operation; state = t.after } = cc in
      rw z (transition n, (refl, ltb-true t.process (length states) r.0, (t.operation, leads s n t e (get_or states t.process 0) (sym (eqb-true (get_or states t.process 0) t.before q.0)), refl)))

  propagates : (n x p : ℕ) (d : Deed) → 64 + 4 * p + x ≡ n → cond (ltb x s.variables) (staying states p (Propagate x)) None ≡ Some d → Moves s states n d
  propagates n x p d e h =
      let r = passed (ltb x s.variables) _ d h in
      let w = stays p (Propagate x) d r.1 in
      let z = w.0 in
      rw z (propagate x, (e, w.1, (ltb-true x s.variables r.0, refl, refl)))

  waits : (n p : ℕ) (mv : Move) (a : Act) (d : Deed) → number_of p mv ≡ n → Is s p (get_or states p 0) mv a (get_or states p 0) → staying states p a ≡ Some d → Moves s states n d
  waits n p mv a d e i h = let w = stays p a d h in let z = w.0 in rw z (mv, (e, w.1, i))

  pub deed_moves : (n : ℕ) (d : Deed) → deed_of s states n ≡ Some d → Moves s states n d
  deed_moves n d h =
      split (ltb n 64) _ _ _ h (λ l g. found n (slice_get s.transitions n) refl d g)
      (λ l g. split (ltb n 80) _ _ _ g (λ m k. let a = ltb-false n 64 l in let e : 64 + 4 * ((n - 64) / 4) + (n - 64) % 4 ≡ n = omega arith in propagates n ((n - 64) % 4) ((n - 64) / 4) d e k)
      (λ m k. split (ltb n 84) _ _ _ k (λ o y. let a = ltb-false n 80 m in let e : 80 + (n - 80) ≡ n = omega arith in waits n (n - 80) delete Delete d e (refl, refl) y)
      (λ o y. split (ltb n 88) _ _ _ y (λ b z. let a = ltb-false n 84 o in let e : 84 + (n - 84) ≡ n = omega arith in waits n (n - 84) update Update d e (refl, refl) z)
      (λ b z. let j : ◌≡◌ {A = ℕ} 0 1 = cc in absurd (omega arith)))))

  stayed : (p q' : ℕ) (a b : Act) → p < length states → a ≡ b → q' ≡ get_or states p 0 → staying states p b ≡ Some (record { process = p; act = a; state = q' })
  stayed p q' a b h e f =
      cond-true _ _ _ (lt-ltb p (length states) h)
      ∙ ap (λ y. Some (record { process = p; act = y; state = get_or states p 0 })) (sym e)
      ∙ ap (λ y. Some (record { process = p; act = a; state = y })) (sym f)

  pub moves_deed : (p q' : ℕ) (mv : Move) (a : Act) → length states ≤ 4 → s.variables ≤ 4 → length s.transitions ≤ 64 → p < length states → Is s p (get_or states p 0) mv a q' → deed_of s states (number_of p mv) ≡ Some (record { process = p; act = a; state = q' })
  moves_deed p q' (transition t) a four vars few h i =
      let l = i.1 in
      let r : Transition = record { process = p; before = get_or states p 0; operation = i.0; after = q' } in
      let m = l.listed in
      cond-true _ _ _ (lt-ltb t 64 (omega arith))
      ∙ ap (by_found states) (slice_get-get_or s.transitions t r m ∙ ap Some (l.entry r))
      ∙ cond-true _ _ _ (lt-ltb p (length states) h)
      ∙ cond-true _ _ _ (eq-eqb (get_or states p 0) (get_or states p 0) refl)
      ∙ ap (λ y. Some (record { process = p; act = y; state = q' })) (sym i.2)
  moves_deed p q' (propagate x) a four vars few h i =
      let v = i.0 in
      let n = 64 + 4 * p + x in
      let e : (n - 64) % 4 ≡ x = omega arith in
      let f : (n - 64) / 4 ≡ p = omega arith in
      cond-false _ _ _ (le-ltb n 64 (omega arith))
      ∙ cond-true _ _ _ (lt-ltb n 80 (omega arith))
      ∙ ap (λ y. cond (ltb y s.variables) (staying states ((n - 64) / 4) (Propagate y)) None) e
      ∙ cond-true _ _ _ (lt-ltb x s.variables v)
      ∙ ap (λ y. staying states y (Propagate x)) f
      ∙ stayed p q' a (Propagate x) h i.1 i.2
  moves_deed p q' delete a four vars few h i =
      let f : 80 + p - 80 ≡ p = omega arith in
      cond-false _ _ _ (le-ltb (80 + p) 64 (omega arith))
      ∙ cond-false _ _ _ (le-ltb (80 + p) 80 (omega arith))
      ∙ cond-true _ _ _ (lt-ltb (80 + p) 84 (omega arith))
      ∙ ap (λ y. staying states y Delete) f
      ∙ stayed p q' a Delete h i.0 i.1
  moves_deed p q' update a four vars few h i =
      let f : 84 + p - 84 ≡ p = omega arith in
      cond-false _ _ _ (le-ltb (84 + p) 64 (omega arith))
      ∙ cond-false _ _ _ (le-ltb (84 + p) 80 (omega arith))
      ∙ cond-false _ _ _ (le-ltb (84 + p) 84 (omega arith))
      ∙ cond-true _ _ _ (lt-ltb (84 + p) 88 (omega arith))
      ∙ ap (λ y. staying states y Update) f
      ∙ stayed p q' a Update h i.0 i.1
