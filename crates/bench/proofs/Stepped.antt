-- What play answers is what the machine allows, and leads where the machine leads.
use Rattle.std.proofs.Common.{◌≡◌, ℕ, ◌+◌, ◌*◌, ◌<◌, ◌≤◌, min, Bool, true, false, cond, ltb, ◌⊎◌, [], ◌∷◌, ◌++◌, map, length, get_or, take, drop, set, Some, None, Ok, Err, Option, Result, sym, refl, ap, ◌∙◌, subst, inl, inr, arith}
use Rattle.std.specs.List.{range_with_len}
use Rattle.std.proofs.lemmas.List.FromFn.{length-map-range_with_len}
use Rattle.std.proofs.lemmas.List.{get_or-set_same, length-set, length-map, length_push, length-take-le, length-take, length-drop}
use Rattle.std.proofs.lemmas.Bool.{ltb-false, true≢false, cond-true}
use Rattle.bench.specs.declared.fault.BenchFault.{BenchFault}
use Rattle.bench.specs.declared.fault.BenchFault.TheVariants.{Short, Wrong}
use Rattle.std.specs.Option.{option_map}
use Rattle.bench.specs.declared.perform.Hindrance.TheVariants.{Full as NoPlace}
use Rattle.files.specs.Program.{Program, Ranges, sizes_of}
use Rattle.machines.specs.Config.{Config, at, put}
use Rattle.machines.specs.Step.{moves}
use Rattle.queue.specs.Fifo.{Kind}
use Rattle.rules.specs.declared.act.Deed.{Deed}
use Rattle.rules.specs.declared.effect.Change.{Change}
use Rattle.rules.specs.declared.effect.Change.TheVariants.{Keep, Join, Leave}
use Rattle.rules.specs.declared.effect.Effect.{Effect}
use Rattle.bench.specs.Deeds.{deed_of}
use Rattle.bench.specs.Perform.{has_place, seen, by_effect}
use Rattle.bench.specs.Play.{Outcome, enacted, by_deed, by_performed, played, unready, unless, lowest, wrong_at, Came}
use Rattle.rules.specs.Rulebook.{Rulebook, room, changed, applied, Exact}
use Rattle.bench.specs.Steps.{StepOf, Stepped}
use Rattle.bench.specs.Table.{Table, part, queue_of, queues, config_of, needed}
use Rattle.bench.proofs.Deeding.{deed_moves, moves_deed}
use Rattle.bench.proofs.Playing.{part_within}
use Rattle.bench.proofs.Stepping.{at_queue, queues_after, changed_is, length_after_lem}

some_none : {X : Type 0} (o : Option X) (e : X) → o ≡ None → o ≡ Some e → ⊥
some_none o e a b = let z : ◌≡◌ {A = ℕ} 0 1 = cc in omega arith

module _ {M : Type 0} (k : Kind M) (u : Rulebook M) (x : Exact k u) (s : Program) (t : Table M)
    (sized : length t.states ≡ length s.states) (counted : length t.lengths ≡ length s.states)
    (ranges : Ranges (sizes_of s)) (enough : needed u s ≤ length t.records) where
  -- what a deed with an effect leads to
  abbrev led : Deed → Effect M → Config
  led d e = put (config_of k u t) d.process (applied k e d.state (at (config_of k u t) d.process))

  -- the queue that process p meets, as the definition of a move reads it
  meets : (p : ℕ) → p < length t.states → get_or (config_of k u t).queues p [] ≡ queue_of k u t p
  meets p h = at_queue k u t u.buffered refl p h

  step_made : (n : ℕ) (d : Deed) (e : Effect M) → deed_of s t.states n ≡ Some d → u.effect d.act t.memory (queue_of k u t d.process) ≡ Some e → StepOf u s (config_of k u t) n (led d e)
  step_made n d e h f =
      let m = deed_moves s t.states n d h in
      let p = d.process in
      let g = ap (u.effect d.act t.memory) (meets p m.1.1) ∙ f in
      let rule = x.sound s p (at (config_of k u t) p) m.0 d.act d.state e m.1.2 g in
      subst (λ (i : ℕ). StepOf u s (config_of k u t) i (led d e)) m.1.0 (moves {c = config_of k u t} {p = p} {k = m.0} (subst (λ (i : ℕ). p < i) sized m.1.1) rule)

  abbrev Made : ℕ → Config → Type 0
  Made n c =
      (d : Deed) × ((e : Effect M) × ((deed_of s t.states n ≡ Some d) × (u.effect d.act t.memory (queue_of k u t d.process) ≡ Some e) × (c ≡ led d e)))

  step_found_lem : (n : ℕ) (c : Config) → StepOf u s (config_of k u t) n c → Made n c
  step_found_lem n c (moves {p} {k = mv} {v} h rule) =
      let y = x.complete s p (at (config_of k u t) p) v mv rule in
      let a = y.0 in
      let q = y.1.0 in
      let e = y.1.1.0 in
      let w = y.1.1.1 in
      let l : p < length t.states = omega arith in
      let four : length t.states ≤ 4 = omega (arith, ranges.processes.1) in (
        record { process = p; act = a; state = q },
        (
          e,
          (
            moves_deed s t.states p q mv a four ranges.variables.1 ranges.transitions l w.0,
            ap (u.effect a t.memory) (sym (meets p l)) ∙ w.1,
            ap (put (config_of k u t) p) w.2,
          ),
        ),
      )

  -- the places of a process
  whole : (p : ℕ) → p < length s.states → room u * p + room u ≤ length t.records
  whole p h = part_within (room u) p (length s.states) (length t.records) h enough

  part_whole : (p : ℕ) → p < length s.states → length (part u p t.records) ≡ room u
  part_whole p h =
      let w = whole p h in
      let l = length-drop (room u * p) t.records in
      length-take-le (room u) (drop (room u * p) t.records) (omega arith)

  -- the configuration once the deed is done
  led_is : (n : ℕ) (d : Deed) (e : Effect M) → d.process < length t.states → has_place e.change (get_or t.lengths d.process 0) (part u d.process t.records) ≡ true → config_of k u (enacted u t d (seen k.zero e (get_or t.lengths d.process 0) t.memory (part u d.process t.records))) ≡ led d e
  led_is n d e h r =
      let p = d.process in
      let l = get_or t.lengths p 0 in
      let xs = part u p t.records in
      let v = seen k.zero e l t.memory xs in
      let g : p < length s.states = omega arith in
      let f : p < length t.lengths = omega arith in
      let new = changed k e.change (queue_of k u t p) in
      let q = queues_after k u t p v.count v.places d.state v.memory new f (whole p g) (length_after_lem k.zero e.change l xs ∙ part_whole p g) (changed_is k e.change l xs r) (queues u (length t.states)) (many u.buffered p h) in
      ap (λ i. record { states = set t.states p d.state; memory = v.memory; queues = i })
      (ap (λ i. map (queue_of k u (enacted u t d v)) (range_with_len 0 (queues u i))) (length-set t.states p d.state) ∙ q ∙ ap (λ i. set (config_of k u t).queues p (changed k e.change i)) (sym (meets p h)))
    where
      many : (b : Bool) (p : ℕ) → p < length t.states → (p < cond b (length t.states) 0) ⊎ (cond b (length t.states) 0 ≡ 0)
      many true p h = inl h
      many false p h = inr refl

  -- a ninth message
  over : (b : Bool) → u.buffered ≡ b → (d : Deed) (e : Effect M) → d.process < length t.states → u.effect d.act t.memory (queue_of k u t d.process) ≡ Some e → (c : Change M) → e.change ≡ c → has_place c (get_or t.lengths d.process 0) (part u d.process t.records) ≡ false → room u < length (get_or (led d e).queues d.process [])
  over b w d e h f Keep z r = absurd (true≢false r)
  over b w d e h f Leave z r = absurd (true≢false r)
  over false w d e h f (Join m) z r = let y = x.bare w d.act t.memory (queue_of k u t d.process) e f in let o : ◌≡◌ {A = ℕ} 0 1 = cc in absurd (omega arith)
  over true w d e h f (Join m) z r =
      let p = d.process in
      let l = get_or t.lengths p 0 in
      let xs = part u p t.records in
      let c = config_of k u t in
      let g : p < length s.states = omega arith in
      let many : queues u (length t.states) ≡ length t.states = cond-true u.buffered (length t.states) 0 w in
      let long = length-map-range_with_len (queue_of k u t) 0 (queues u (length t.states)) in
      let a = get_or-set_same c.queues p (changed k e.change (get_or c.queues p [])) [] (omega arith) in
      let q : get_or (led d e).queues p [] ≡ queue_of k u t p ++ k.means m ∷ [] = a ∙ ap (λ i. changed k i (get_or c.queues p [])) z ∙ ap (λ i. i ++ k.means m ∷ []) (meets p h) in
      let n = ap length q ∙ length_push (queue_of k u t p) (k.means m) in
      let y = length-map (take l xs) k.means in
      let i = length-take l xs in
      let j = part_whole p g in
      let o = ltb-false l (length xs) r in
      omega arith

  -- there is no other step by that move
  only : (n : ℕ) (d : Deed) (e : Effect M) → deed_of s t.states n ≡ Some d → u.effect d.act t.memory (queue_of k u t d.process) ≡ Some e → (c : Config) → StepOf u s (config_of k u t) n c → c ≡ led d e
  only n d e g f c z =
      let y = step_found_lem n c z in
      let d' = y.0 in
      let e' = y.1.0 in
      let w = y.1.1 in
      let g' = w.0 in
      let f' = w.1 in
      let a : d' ≡ d = cc in
      let b : e' ≡ e = cc in
      w.2 ∙ ap (λ i. led i e') a ∙ ap (led d) b

  -- the answer of an outcome, and what it leaves, are the machine's
  abbrev Right : ℕ → Outcome M → Type 0
  Right n o = Stepped k u s t n o.answer o.after

  by_room : (n : ℕ) (d : Deed) (e : Effect M) → deed_of s t.states n ≡ Some d → u.effect d.act t.memory (queue_of k u t d.process) ≡ Some e → (b : Bool) → has_place e.change (get_or t.lengths d.process 0) (part u d.process t.records) ≡ b → Right n (by_performed u t n d (cond b (Ok (seen k.zero e (get_or t.lengths d.process 0) t.memory (part u d.process t.records))) (Err NoPlace)))
  by_room n d e g f true r =
      let h = (deed_moves s t.states n d g).1.1 in
      let i = led_is n d e h r in
      (subst (λ (c : Config). StepOf u s (config_of k u t) n c) (sym i) (step_made n d e g f), λ c z. only n d e g f c z ∙ sym i)
  by_room n d e g f false r =
      let h = (deed_moves s t.states n d g).1.1 in
      (led d e, (step_made n d e g f, over u.buffered refl d e h f e.change refl r))

  by_effect_lem : (n : ℕ) (d : Deed) → deed_of s t.states n ≡ Some d → (o : Option (Effect M)) → u.effect d.act t.memory (queue_of k u t d.process) ≡ o → Right n (by_performed u t n d (by_effect k.zero o (get_or t.lengths d.process 0) t.memory (part u d.process t.records)))
  by_effect_lem n d g None f = λ c z.
      let y = step_found_lem n c z in
      let d' = y.0 in
      let e' = y.1.0 in
      let w = y.1.1 in
      let g' = w.0 in
      let f' = w.1 in
      let a : d' ≡ d = cc in
      let b : u.effect d.act t.memory (queue_of k u t d.process) ≡ Some e' = cc in
      some_none _ e' f b
  by_effect_lem n d g (Some e) f = by_room n d e g f (has_place e.change (get_or t.lengths d.process 0) (part u d.process t.records)) refl

  by_deed_lem : (n : ℕ) (o : Option Deed) → deed_of s t.states n ≡ o → Right n (by_deed k u t n o)
  by_deed_lem n None g = λ c z. let y = step_found_lem n c z in some_none _ y.0 g y.1.1.0
  by_deed_lem n (Some d) g = by_effect_lem n d g (u.effect d.act t.memory (queue_of k u t d.process)) refl

  pub stepped : (n : ℕ) → Right n (by_deed k u t n (deed_of s t.states n))
  stepped n = by_deed_lem n (deed_of s t.states n) refl

-- the outcome of a move
module _ {M : Type 0} (k : Kind M) (u : Rulebook M) (x : Exact k u) (s : Program) (t : Table M)
    (sized : length t.states ≡ length s.states) (counted : length t.lengths ≡ length s.states) (ranges : Ranges (sizes_of s)) where
  unready_right : (n : ℕ) (b : Bool) → ltb (length t.records) (needed u s) ≡ b → (o : Option ℕ) → Stepped k u s t n (unless (cond b (Some (Short (needed u s))) (option_map Wrong o)) t (by_deed k u t n (deed_of s t.states n))).answer (unless (cond b (Some (Short (needed u s))) (option_map Wrong o)) t (by_deed k u t n (deed_of s t.states n))).after
  unready_right n true e o = tt
  unready_right n false e (Some j) = tt
  unready_right n false e None = stepped k u x s t sized counted ranges (ltb-false _ _ e) n

  pub played_right : (n : ℕ) (r : Result (Unit {0}) BenchFault) (t' : Table M) → Came (played k u s t n) r t' → Stepped k u s t n r t'
  played_right n r t' h =
      let a : Stepped k u s t n (played k u s t n).answer (played k u s t n).after = unready_right n (ltb (length t.records) (needed u s)) refl (lowest (wrong_at k s t.lengths t.records) (needed u s) 0) in
      rw (h.0, h.1) a

-- records that can be played on are enough
pub ready_enough : {M : Type 0} (k : Kind M) (u : Rulebook M) (s : Program) (t : Table M) → None ≡ unready k u s t → needed u s ≤ length t.records
ready_enough k u s t h = held (ltb (length t.records) (needed u s)) refl h
  where
    held : (b : Bool) → ltb (length t.records) (needed u s) ≡ b → None ≡ cond b (Some (Short (needed u s))) (option_map Wrong (lowest (wrong_at k s t.lengths t.records) (needed u s) 0)) → needed u s ≤ length t.records
    held true e g = let z : ◌≡◌ {A = ℕ} 0 1 = cc in absurd (omega arith)
    held false e g = ltb-false _ _ e

-- how many messages a process has pending
pub queue_length : {M : Type 0} (k : Kind M) (u : Rulebook M) (s : Program) (t : Table M) → needed u s ≤ length t.records → (p : ℕ) → p < length s.states → length (queue_of k u t p) ≡ min (get_or t.lengths p 0) (room u)
queue_length k u s t enough p h =
    let w = part_within (room u) p (length s.states) (length t.records) h enough in
    let l = length-drop (room u * p) t.records in
    let e = length-take-le (room u) (drop (room u * p) t.records) (omega arith) in
    length-map (take (get_or t.lengths p 0) (part u p t.records)) k.means ∙ length-take (get_or t.lengths p 0) (part u p t.records) ∙ ap (min (get_or t.lengths p 0)) e
