-- The load-buffer process lags behind the store-buffer process: what that one has made and it has not is pending.
use Rattle.std.proofs.Common.{◌≡◌, ℕ, List, [], ◌∷◌, ◌++◌, Some, None, refl, append_assoc, append-nil}
use Rattle.files.specs.Program.{Program}
use Rattle.files.specs.declared.transition.Operation.TheVariants.{Nop, Read, Write}
use Rattle.machines.specs.Message.{Message, Queue, own_of, seen_of, newest}
use Rattle.machines.specs.Step.{Leads}
use Rattle.machines.proofs.Ends.{newest_append}

-- `Pending s p l d q ts b q' us`: transitions of process p lead from the state q to the state q'. With ts made before them, us are made in
-- the end, and their writes are b, in order: the store-buffer process has queued them.
-- The load-buffer process can make them. Its queue is l, and behind it d, the own messages that it will have written by then. A read of
-- memory has its message in l, and all in front of that is deleted before; of d nothing is.
pub data Pending (s : Program) (p : ℕ) : Queue → Queue → ℕ → List ℕ → Queue → ℕ → List ℕ → Type 0 where
  level : {l d : Queue} {q : ℕ} {ts : List ℕ}
      → Pending s p l d q ts [] q ts
  nops : {l d b : Queue} {t q q₁ q' : ℕ} {ts us : List ℕ}
      → Leads s t p q Nop q₁
      → Pending s p l d q₁ (ts ++ t ∷ []) b q' us
      → Pending s p l d q ts b q' us
  writes : {l d b : Queue} {t q q₁ q' x v : ℕ} {ts us : List ℕ}
      → Leads s t p q (Write x v) q₁
      → Pending s p l (d ++ own_of x v ∷ []) q₁ (ts ++ t ∷ []) b q' us
      → Pending s p l d q ts (own_of x v ∷ b) q' us
  reads_own : {l d b : Queue} {t q q₁ q' x v : ℕ} {ts us : List ℕ}
      → Leads s t p q (Read x v) q₁
      → newest x (l ++ d) ≡ Some v
      → Pending s p l d q₁ (ts ++ t ∷ []) b q' us
      → Pending s p l d q ts b q' us
  reads_seen : (gone : Queue) {l d b : Queue} {t q q₁ q' x v : ℕ} {ts us : List ℕ}
      → Leads s t p q (Read x v) q₁
      → newest x (l ++ d) ≡ None
      → Pending s p (seen_of x v ∷ l) d q₁ (ts ++ t ∷ []) b q' us
      → Pending s p (gone ++ seen_of x v ∷ l) d q ts b q' us

-- reads take both queues for the same
abbrev Alike : Queue → Queue → Type 0
Alike a b = (x : ℕ) → newest x a ≡ newest x b

alike_behind : (l a b : Queue) → Alike a b → Alike (l ++ a) (l ++ b)
alike_behind l a b e x = rw (newest_append x l a, newest_append x l b, e x)

alike_front : (l a b : Queue) → Alike a b → Alike (a ++ l) (b ++ l)
alike_front l a b e x = rw (newest_append x a l, newest_append x b l, e x)

module _ {s : Program} {p : ℕ} where
  -- The queue grows by `more`: by seen messages, or by the first own messages of d, which have been written. And what is pending goes on,
  -- as k says for whatever l₁ is left of l by then.
  goes_on : (more : Queue) {l d b b₂ : Queue} {q q₁ q₂ : ℕ} {ts us vs : List ℕ} (d₁ : Queue)
      → Pending s p l d q ts b q₁ us
      → Alike (more ++ d₁) d
      → ((l₁ : Queue) → Pending s p (l₁ ++ more) (d₁ ++ b) q₁ us b₂ q₂ vs)
      → Pending s p (l ++ more) d₁ q ts (b ++ b₂) q₂ vs
  goes_on more d₁ (level {l}) e k = rw (append-nil d₁) at (k l)
  goes_on more d₁ (nops a r) e k = nops a (goes_on more d₁ r e k)
  goes_on more d₁ (writes {d} {b} {x} {v} a r) e k =
      let one : Queue = own_of x v ∷ [] in
      writes a (goes_on more (d₁ ++ one) r (rw (← append_assoc more d₁ one) (alike_front one (more ++ d₁) d e)) (λ l₁. rw (append_assoc d₁ one b) (k l₁)))
  goes_on more d₁ (reads_own {l} {d} {x} a h r) e k =
      reads_own a (rw (append_assoc l more d₁, alike_behind l (more ++ d₁) d e x) h) (goes_on more d₁ r e k)
  goes_on more d₁ (reads_seen gone {l} {d} {x} {v} a h r) e k =
      let none : newest x ((l ++ more) ++ d₁) ≡ None = rw (append_assoc l more d₁, alike_behind l (more ++ d₁) d e x) h in
      rw (append_assoc gone (seen_of x v ∷ l) more) (reads_seen gone a none (goes_on more d₁ r e k))

  -- the first message of d has been written
  pub settled : (m : Message) {l b : Queue} {q q' : ℕ} {ts us : List ℕ}
      → Pending s p l (m ∷ []) q ts b q' us → Pending s p (l ++ m ∷ []) [] q ts b q' us
  settled m {b} r = rw (append-nil b) at (goes_on (m ∷ []) [] r (λ x. refl) (λ l₁. level))

  -- the store-buffer process makes one more transition, which is pending from then on
  module _ {l b : Queue} {q q₁ q₂ t : ℕ} {ts us : List ℕ} (r : Pending s p l [] q ts b q₁ us) where
    pub and_nop : Leads s t p q₁ Nop q₂ → Pending s p l [] q ts b q₂ (us ++ t ∷ [])
    and_nop a = rw (append-nil b, append-nil l) at (goes_on [] [] r (λ x. refl) (λ l₁. nops a level))

    pub and_write : {x v : ℕ} → Leads s t p q₁ (Write x v) q₂ → Pending s p l [] q ts (b ++ own_of x v ∷ []) q₂ (us ++ t ∷ [])
    and_write a = rw (append-nil l) at (goes_on [] [] r (λ x. refl) (λ l₁. writes a level))

    pub and_read_own : {x v : ℕ} → Leads s t p q₁ (Read x v) q₂ → newest x b ≡ Some v → Pending s p l [] q ts b q₂ (us ++ t ∷ [])
    and_read_own {x} a h =
        rw (append-nil b, append-nil l) at
        (goes_on [] [] r (λ y. refl) (λ l₁. reads_own a (rw (newest_append x (l₁ ++ []) b, h)) level))

    -- the value in memory has just been propagated
    pub and_read_memory : {x v : ℕ} → Leads s t p q₁ (Read x v) q₂ → newest x b ≡ None
        → Pending s p (l ++ seen_of x v ∷ []) [] q ts b q₂ (us ++ t ∷ [])
    and_read_memory {x} {v} a h = rw (append-nil b) at (goes_on (seen_of x v ∷ []) [] r (λ y. refl) (λ l₁. reads_seen l₁ a h level))
