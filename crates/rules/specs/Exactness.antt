-- The effects of the three machines are those of their published rules.
use Rattle.std.specs.Prelude.{◌≡◌, ℕ, suc, Bool, true, false, cond, List, [], ◌∷◌, map, length, Some, None, Option, ◌==◌, ◌≢◌, slice_index, refl}
use Rattle.std.proofs.Common.{sym, ap, ◌∙◌, arith}
use Rattle.std.proofs.lemmas.Bool.{eqb-true, eq-eqb, cond-true, and_parts, and_from, ne_eqb, true≢false}
use Rattle.std.specs.Option.{unwrap_or, option_or}
use Rattle.files.specs.Program.{Program}
use Rattle.files.specs.declared.transition.Operation.{Operation}
use Rattle.files.specs.declared.transition.Operation.TheVariants.{Nop, Read, Write, Fence, Exchange}
use Rattle.machines.specs.Message.{Message, Queue, seen_of, tells, newest}
use Rattle.machines.specs.Config.{View, view}
use Rattle.machines.specs.Step.{Move, transition, propagate, delete, update, Leads}
use Rattle.machines.specs.StoreBuffers as store
use Rattle.machines.specs.LoadBuffers as load
use Rattle.machines.specs.Plain as plain
use Rattle.queue.specs.Kinds.{store_kind, load_kind}
use Rattle.queue.specs.declared.load.LoadMessage.{LoadMessage}
use Rattle.queue.specs.declared.store.StoreMessage.{StoreMessage}
use Rattle.rules.specs.declared.act.Act.{Act}
use Rattle.rules.specs.declared.act.Act.TheVariants.{Operate, Propagate, Delete, Update}
use Rattle.rules.specs.declared.effect.Change.TheVariants.{Keep, Join, Leave}
use Rattle.rules.specs.declared.effect.Effect.{Effect}
use Rattle.rules.specs.Memory.{still, is_empty}
use Rattle.rules.specs.Rulebook.{applied, Is, Acted, Exact}
use Rattle.rules.specs.StoreBuffers.{store_book, store_operation, store_effect, carried}
use Rattle.rules.specs.LoadBuffers.{load_book, load_operation, load_effect, yields, is_seen, deleted, propagated}
use Rattle.rules.specs.Plain.{plain_book, plain_operation, plain_effect}

-- what a test that passed says
passed : {X : Type 0} (b : Bool) (x e : X) → cond b (Some x) None ≡ Some e → (b ≡ true) × (e ≡ x)
passed true x e h = (refl, cc)
passed false x e h = let z : ◌≡◌ {A = ℕ} 0 1 = cc in absurd (omega arith)

none_some : {X : Type 0} (e : X) → None ≢ Some e
none_some e h = let z : ◌≡◌ {A = ℕ} 0 1 = cc in omega arith

module _ (s : Program) (p t q q' : ℕ) (mem : List ℕ) where
  store_read : (b : Queue) (x v : ℕ) → Leads s t p q (Read x v) q' → (o : Option ℕ) → newest x b ≡ o → (unwrap_or o (slice_index mem x) == v) ≡ true → store.StoreRule s p (view mem q b) (transition t) (view mem q' b)
  store_read b x v l (Some n) e h = store.reads_own l (e ∙ ap Some (eqb-true n v h))
  store_read b x v l None e h = store.reads_memory l e (eqb-true (slice_index mem x) v h)

  store_operates : (b : Queue) (o : Operation) (e : Effect StoreMessage) → Leads s t p q o q' → store_operation o mem b ≡ Some e → store.StoreRule s p (view mem q b) (transition t) (applied store_kind e q' (view mem q b))
  store_operates b Nop e l h = let z : e ≡ still = cc in rw z (store.nops l)
  store_operates b (Read x v) e l h = let r = passed _ _ _ h in let z : e ≡ still = r.1 in rw z (store_read b x v l (newest x b) refl r.0)
  store_operates b (Write x v) e l h = let z : e ≡ record { write = None; change = Join (record { variable = x; value = v }) } = cc in rw z (store.writes l)
  store_operates [] Fence e l h = let z : e ≡ still = cc in rw z (store.fences l)
  store_operates (m ∷ b) Fence e l h = absurd (none_some e h)
  store_operates [] (Exchange x v w) e l h = let r = passed _ _ _ h in let z : e ≡ record { write = Some (record { variable = x; value = w }); change = Keep } = r.1 in rw z (store.exchanges l (eqb-true (slice_index mem x) v r.0))
  store_operates (m ∷ b) (Exchange x v w) e l h = absurd (none_some e h)

-- the oldest message, by its parts
store_carries : (s : Program) (p q : ℕ) (mem : List ℕ) (own : Bool) (x v : ℕ) (b : Queue) (e : Effect StoreMessage) → carried (record { own = own; variable = x; value = v } ∷ b) ≡ Some e → store.StoreRule s p (view mem q (record { own = own; variable = x; value = v } ∷ b)) update (applied store_kind e q (view mem q (record { own = own; variable = x; value = v } ∷ b)))
store_carries s p q mem true x v b e h = let z : e ≡ record { write = Some (record { variable = x; value = v }); change = Leave } = cc in rw z store.updates
store_carries s p q mem false x v b e h = absurd (none_some e h)

store_updates : (s : Program) (p q : ℕ) (mem : List ℕ) (b : Queue) (e : Effect StoreMessage) → carried b ≡ Some e → store.StoreRule s p (view mem q b) update (applied store_kind e q (view mem q b))
store_updates s p q mem [] e h = absurd (none_some e h)
store_updates s p q mem (m ∷ b) e h = store_carries s p q mem m.own m.variable m.value b e h

store_sound : (s : Program) (p : ℕ) (v : View) (mv : Move) (a : Act) (q' : ℕ) (e : Effect StoreMessage) → Is s p v.state mv a q' → store_effect a v.memory v.queue ≡ Some e → store.StoreRule s p v mv (applied store_kind e q' v)
store_sound s p v (transition t) a q' e i h =
    store_operates s p t v.state q' v.memory v.queue i.0 e i.1 (sym (ap (λ x. store_effect x v.memory v.queue) i.2) ∙ h)
store_sound s p v (propagate x) a q' e i h = absurd (none_some e (sym (ap (λ y. store_effect y v.memory v.queue) i.1) ∙ h))
store_sound s p v delete a q' e i h = absurd (none_some e (sym (ap (λ y. store_effect y v.memory v.queue) i.0) ∙ h))
store_sound s p v update a q' e i h =
    let c = sym (ap (λ y. store_effect y v.memory v.queue) i.0) ∙ h in
    rw i.1 (store_updates s p v.state v.memory v.queue e c)

store_complete : (s : Program) (p : ℕ) (v v' : View) (mv : Move) → store.StoreRule s p v mv v' → Acted store_kind store_book s p v mv v'
store_complete s p v v' mv (store.nops {q'} l) = (Operate Nop, (q', (still, ((Nop, l, refl), refl, refl))))
store_complete s p v v' mv (store.writes {q'} {x} {v = w} l) =
    (Operate (Write x w), (q', (record { write = None; change = Join (record { variable = x; value = w }) }, ((Write x w, l, refl), refl, refl))))
store_complete s p v v' mv (store.updates {q} {x} {v = w}) = (Update, (q, (record { write = Some (record { variable = x; value = w }); change = Leave }, ((refl, refl), refl, refl))))
store_complete s p v v' mv (store.reads_own {mem} {q'} {x} {v = w} l n) =
    (Operate (Read x w), (q', (still, ((Read x w, l, refl), cond-true _ _ _ (eq-eqb _ _ (ap (λ o. unwrap_or o (slice_index mem x)) n)), refl))))
store_complete s p v v' mv (store.reads_memory {mem} {q'} {x} {v = w} l n m) =
    (Operate (Read x w), (q', (still, ((Read x w, l, refl), cond-true _ _ _ (eq-eqb _ _ (ap (λ o. unwrap_or o (slice_index mem x)) n ∙ m)), refl))))
store_complete s p v v' mv (store.fences {q'} l) = (Operate Fence, (q', (still, ((Fence, l, refl), refl, refl))))
store_complete s p v v' mv (store.exchanges {q'} {x} {v = w} {w = y} l m) =
    (Operate (Exchange x w y), (q', (record { write = Some (record { variable = x; value = y }); change = Keep }, ((Exchange x w y, l, refl), cond-true _ _ _ (eq-eqb _ _ m), refl))))

store_leaves : (m : List ℕ) (q : Queue) (e : Effect StoreMessage) → carried q ≡ Some e → e.change ≡ Leave
store_leaves m [] e h = absurd (none_some e h)
store_leaves m (x ∷ q) e h = let r = passed x.own _ e h in let z = r.1 in cc

pub store_exact : Exact store_kind store_book
store_exact =
    record { sound = store_sound; complete = store_complete; bare = λ h. absurd (true≢false h); empties = (Update, (λ s p q. (refl, refl), store_leaves)) }

none_newer : (o t : Option ℕ) → option_or o t ≡ None → o ≡ None
none_newer (Some n) t h = h
none_newer None t h = refl

module _ (s : Program) (p t q q' : ℕ) (mem : List ℕ) where
  load_seen : (own : Bool) (y w : ℕ) (b : Queue) (x v : ℕ) → Leads s t p q (Read x v) q' → newest x b ≡ None → is_seen x v (record { own = own; variable = y; value = w }) ≡ true → load.LoadRule s p (view mem q (record { own = own; variable = y; value = w } ∷ b)) (transition t) (view mem q' (record { own = own; variable = y; value = w } ∷ b))
  load_seen true y w b x v l n h = let z : ◌≡◌ {A = ℕ} 0 1 = cc in absurd (omega arith)
  load_seen false y w b x v l n h =
      let r = and_parts (y == x) (w == v) h in
      let e = eqb-true y x r.0 in
      let f = eqb-true w v r.1 in
      rw (e, f) (load.reads_seen l n)

  load_read : (b : Queue) (x v : ℕ) → Leads s t p q (Read x v) q' → (o : Option ℕ) → newest x b ≡ o → yields o x v b ≡ true → load.LoadRule s p (view mem q b) (transition t) (view mem q' b)
  load_read b x v l (Some n) e h = load.reads_own l (e ∙ ap Some (eqb-true n v h))
  load_read [] x v l None e h = let z : ◌≡◌ {A = ℕ} 0 1 = cc in absurd (omega arith)
  load_read (m ∷ b) x v l None e h = load_seen m.own m.variable m.value b x v l (none_newer (newest x b) (tells x m) e) h

  load_operates : (b : Queue) (o : Operation) (e : Effect LoadMessage) → Leads s t p q o q' → load_operation o mem b ≡ Some e → load.LoadRule s p (view mem q b) (transition t) (applied load_kind e q' (view mem q b))
  load_operates b Nop e l h = let z : e ≡ still = cc in rw z (load.nops l)
  load_operates b (Read x v) e l h = let r = passed _ _ _ h in let z : e ≡ still = r.1 in rw z (load_read b x v l (newest x b) refl r.0)
  load_operates b (Write x v) e l h =
      let z : e ≡ record { write = Some (record { variable = x; value = v }); change = Join (record { own = true; variable = x; value = v }) } = cc in
      rw z (load.writes l)
  load_operates [] Fence e l h = let z : e ≡ still = cc in rw z (load.fences l)
  load_operates (m ∷ b) Fence e l h = absurd (none_some e h)
  load_operates [] (Exchange x v w) e l h = let r = passed _ _ _ h in let z : e ≡ record { write = Some (record { variable = x; value = w }); change = Keep } = r.1 in rw z (load.exchanges l (eqb-true (slice_index mem x) v r.0))
  load_operates (m ∷ b) (Exchange x v w) e l h = absurd (none_some e h)

load_deletes : (s : Program) (p q : ℕ) (mem : List ℕ) (b : Queue) (e : Effect LoadMessage) → deleted b ≡ Some e → load.LoadRule s p (view mem q b) delete (applied load_kind e q (view mem q b))
load_deletes s p q mem [] e h = absurd (none_some e h)
load_deletes s p q mem (m ∷ b) e h = let z : e ≡ record { write = None; change = Leave } = cc in rw z load.deletes

load_sound : (s : Program) (p : ℕ) (v : View) (mv : Move) (a : Act) (q' : ℕ) (e : Effect LoadMessage) → Is s p v.state mv a q' → load_effect a v.memory v.queue ≡ Some e → load.LoadRule s p v mv (applied load_kind e q' v)
load_sound s p v (transition t) a q' e i h =
    load_operates s p t v.state q' v.memory v.queue i.0 e i.1 (sym (ap (λ x. load_effect x v.memory v.queue) i.2) ∙ h)
load_sound s p v (propagate x) a q' e i h =
    let c = sym (ap (λ y. load_effect y v.memory v.queue) i.1) ∙ h in
    let z : e ≡ propagated x v.memory = cc in
    rw (i.2, z) (load.propagates i.0)
load_sound s p v delete a q' e i h =
    let c = sym (ap (λ y. load_effect y v.memory v.queue) i.0) ∙ h in
    rw i.1 (load_deletes s p v.state v.memory v.queue e c)
load_sound s p v update a q' e i h = absurd (none_some e (sym (ap (λ y. load_effect y v.memory v.queue) i.0) ∙ h))

load_complete : (s : Program) (p : ℕ) (v v' : View) (mv : Move) → load.LoadRule s p v mv v' → Acted load_kind load_book s p v mv v'
load_complete s p v v' mv (load.nops {q'} l) = (Operate Nop, (q', (still, ((Nop, l, refl), refl, refl))))
load_complete s p v v' mv (load.writes {q'} {x} {v = w} l) =
    (Operate (Write x w), (q', (record { write = Some (record { variable = x; value = w }); change = Join (record { own = true; variable = x; value = w }) }, ((Write x w, l, refl), refl, refl))))
load_complete s p v v' mv (load.propagates {mem} {q} {x} h) = (Propagate x, (q, (propagated x mem, ((h, refl, refl), refl, refl))))
load_complete s p v v' mv (load.deletes {q}) = (Delete, (q, (record { write = None; change = Leave }, ((refl, refl), refl, refl))))
load_complete s p v v' mv (load.reads_own {b} {q'} {x} {v = w} l n) =
    (Operate (Read x w), (q', (still, ((Read x w, l, refl), cond-true _ _ _ (ap (λ o. yields o x w b) n ∙ eq-eqb w w refl), refl))))
load_complete s p v v' mv (load.reads_seen {b} {q'} {x} {v = w} l n) =
    let y = and_from (x == x) (w == w) (eq-eqb x x refl) (eq-eqb w w refl) in
    (Operate (Read x w), (q', (still, ((Read x w, l, refl), cond-true _ _ _ (ap (λ o. yields (option_or o None) x w (seen_of x w ∷ b)) n ∙ y), refl))))
load_complete s p v v' mv (load.fences {q'} l) = (Operate Fence, (q', (still, ((Fence, l, refl), refl, refl))))
load_complete s p v v' mv (load.exchanges {q'} {x} {v = w} {w = y} l m) =
    (Operate (Exchange x w y), (q', (record { write = Some (record { variable = x; value = y }); change = Keep }, ((Exchange x w y, l, refl), cond-true _ _ _ (eq-eqb _ _ m), refl))))

load_leaves : (m : List ℕ) (q : Queue) (e : Effect LoadMessage) → deleted q ≡ Some e → e.change ≡ Leave
load_leaves m [] e h = absurd (none_some e h)
load_leaves m (x ∷ q) e h = cc

pub load_exact : Exact load_kind load_book
load_exact =
    record { sound = load_sound; complete = load_complete; bare = λ h. absurd (true≢false h); empties = (Delete, (λ s p q. (refl, refl), load_leaves)) }

plain_operates : (s : Program) (p t q q' : ℕ) (mem : List ℕ) (b : Queue) (o : Operation) (e : Effect LoadMessage) → Leads s t p q o q' → plain_operation o mem ≡ Some e → plain.PlainRule s p (view mem q b) (transition t) (applied load_kind e q' (view mem q b))
plain_operates s p t q q' mem b Nop e l h = let z : e ≡ still = cc in rw z (plain.nops l)
plain_operates s p t q q' mem b (Read x v) e l h = let r = passed _ _ _ h in let z : e ≡ still = r.1 in rw z (plain.reads l (eqb-true (slice_index mem x) v r.0))
plain_operates s p t q q' mem b (Write x v) e l h = let z : e ≡ record { write = Some (record { variable = x; value = v }); change = Keep } = cc in rw z (plain.writes l)
plain_operates s p t q q' mem b Fence e l h = let z : e ≡ still = cc in rw z (plain.fences l)
plain_operates s p t q q' mem b (Exchange x v w) e l h =
    let r = passed _ _ _ h in
    let z : e ≡ record { write = Some (record { variable = x; value = w }); change = Keep } = r.1 in
    rw z (plain.exchanges l (eqb-true (slice_index mem x) v r.0))

plain_sound : (s : Program) (p : ℕ) (v : View) (mv : Move) (a : Act) (q' : ℕ) (e : Effect LoadMessage) → Is s p v.state mv a q' → plain_effect a v.memory v.queue ≡ Some e → plain.PlainRule s p v mv (applied load_kind e q' v)
plain_sound s p v (transition t) a q' e i h =
    plain_operates s p t v.state q' v.memory v.queue i.0 e i.1 (sym (ap (λ x. plain_effect x v.memory v.queue) i.2) ∙ h)
plain_sound s p v (propagate x) a q' e i h = absurd (none_some e (sym (ap (λ y. plain_effect y v.memory v.queue) i.1) ∙ h))
plain_sound s p v delete a q' e i h = absurd (none_some e (sym (ap (λ y. plain_effect y v.memory v.queue) i.0) ∙ h))
plain_sound s p v update a q' e i h = absurd (none_some e (sym (ap (λ y. plain_effect y v.memory v.queue) i.0) ∙ h))

plain_complete : (s : Program) (p : ℕ) (v v' : View) (mv : Move) → plain.PlainRule s p v mv v' → Acted load_kind plain_book s p v mv v'
plain_complete s p v v' mv (plain.nops {q'} l) = (Operate Nop, (q', (still, ((Nop, l, refl), refl, refl))))
plain_complete s p v v' mv (plain.fences {q'} l) = (Operate Fence, (q', (still, ((Fence, l, refl), refl, refl))))
plain_complete s p v v' mv (plain.reads {q'} {x} {v = w} l m) = (Operate (Read x w), (q', (still, ((Read x w, l, refl), cond-true _ _ _ (eq-eqb _ _ m), refl))))
plain_complete s p v v' mv (plain.writes {q'} {x} {v = w} l) =
    (Operate (Write x w), (q', (record { write = Some (record { variable = x; value = w }); change = Keep }, ((Write x w, l, refl), refl, refl))))
plain_complete s p v v' mv (plain.exchanges {q'} {x} {v = w} {w = y} l m) =
    (Operate (Exchange x w y), (q', (record { write = Some (record { variable = x; value = y }); change = Keep }, ((Exchange x w y, l, refl), cond-true _ _ _ (eq-eqb _ _ m), refl))))

plain_keeps : (m : List ℕ) (o : Operation) (e : Effect LoadMessage) → plain_operation o m ≡ Some e → e.change ≡ Keep
plain_keeps m Nop e h = cc
plain_keeps m (Read x v) e h = let r = passed _ _ _ h in let z = r.1 in cc
plain_keeps m (Write x v) e h = cc
plain_keeps m Fence e h = cc
plain_keeps m (Exchange x v w) e h = let r = passed _ _ _ h in let z = r.1 in cc

plain_bare : (a : Act) (m : List ℕ) (q : Queue) (e : Effect LoadMessage) → plain_effect a m q ≡ Some e → e.change ≡ Keep
plain_bare (Operate o) m q e h = plain_keeps m o e h
plain_bare (Propagate x) m q e h = absurd (none_some e h)
plain_bare Delete m q e h = absurd (none_some e h)
plain_bare Update m q e h = absurd (none_some e h)

pub plain_exact : Exact load_kind plain_book
plain_exact =
    record { sound = plain_sound; complete = plain_complete; bare = λ h. plain_bare; empties = (Delete, (λ s p q. (refl, refl), λ m q e h. absurd (none_some e h))) }

pub empty_is : {M : Type 0} (f : M → Message) (xs : List M) → (length xs == 0) ≡ is_empty (map f xs)
empty_is f [] = refl
empty_is f (x ∷ xs) = ne_eqb (suc (length xs)) 0 (λ e. omega arith)
