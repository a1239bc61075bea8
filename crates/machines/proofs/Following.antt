-- The load-buffer process follows the store-buffer process.
use Rattle.std.proofs.Common.{◌≡◌, ℕ, List, [], ◌∷◌, ◌++◌, get_or, set, None, ap, ◌∙◌, append_assoc, append-nil}
use Rattle.files.specs.Program.{Program}
use Rattle.files.specs.declared.transition.Operation.TheVariants.{Read, Write}
use Rattle.machines.specs.Message.{Message, Queue, own_of, seen_of, newest}
use Rattle.machines.specs.Config.{View, view}
use Rattle.machines.specs.Step.{Move, noted, Leads}
use Rattle.machines.specs.StoreBuffers.{StoreRule}
use Rattle.machines.specs.LoadBuffers.{LoadRule}
use Rattle.machines.specs.Predecessors.{AllDrawn}
use Rattle.machines.proofs.Views.{drawn}
use Rattle.machines.proofs.Runs.{Makes, idle, ◌next◌, link}
use Rattle.machines.proofs.Pending.{Pending, settled, and_nop, and_write, and_read_own, and_read_memory}

-- memory once the stores have reached it, the oldest first
abbrev pub updated : List ℕ → Queue → List ℕ
updated mem [] = mem
updated mem (m ∷ b) = updated (set mem m.variable m.value) b

-- The load-buffer process has gone on from u and made the next pending write, that of m; b is pending still.
record Past (s : Program) (p : ℕ) (mem : List ℕ) (u : View) (ts : List ℕ) (d : Queue) (m : Message) (b : Queue) (q' : ℕ) (us : List ℕ) : Type 0 where
  left : Queue
  state : ℕ
  made : List ℕ
  run : Makes (LoadRule s p) u ts (view (set mem m.variable m.value) state (left ++ (d ++ m ∷ []))) made
  rest : Pending s p left (d ++ m ∷ []) state made b q' us

module _ {s : Program} {p : ℕ} where
  -- the oldest messages are deleted
  deleted : (mem : List ℕ) (q : ℕ) (gone b : Queue) {ts : List ℕ} → Makes (LoadRule s p) (view mem q (gone ++ b)) ts (view mem q b) ts
  deleted mem q [] b = idle
  deleted mem q (m ∷ gone) b = link (idle next LoadRule.deletes) (deleted mem q gone b)

  -- pending transitions are made
  module _ (mem : List ℕ) (l d : Queue) {t q q' x v : ℕ} {ts : List ℕ} where
    written : Leads s t p q (Write x v) q'
        → Makes (LoadRule s p) (view mem q (l ++ d)) ts (view (set mem x v) q' (l ++ (d ++ own_of x v ∷ []))) (ts ++ t ∷ [])
    written a = rw (← append_assoc l d (own_of x v ∷ [])) (idle next LoadRule.writes a)

    seen_read : (gone : Queue) → Leads s t p q (Read x v) q' → newest x (l ++ d) ≡ None
        → Makes (LoadRule s p) (view mem q ((gone ++ seen_of x v ∷ l) ++ d)) ts (view mem q' (seen_of x v ∷ (l ++ d))) (ts ++ t ∷ [])
    seen_read gone a h =
        rw (append_assoc gone (seen_of x v ∷ l) d) (deleted mem q gone (seen_of x v ∷ (l ++ d)) next LoadRule.reads_seen a h)

  -- all of them, and then the queue is emptied
  caught_up : (mem : List ℕ) {l d : Queue} {q : ℕ} {ts : List ℕ} {b : Queue} {q' : ℕ} {us : List ℕ} → Pending s p l d q ts b q' us
      → Makes (LoadRule s p) (view mem q (l ++ d)) ts (view (updated mem b) q' []) us
  caught_up mem (Pending.level {l} {d} {q} {ts}) = rw (append-nil (l ++ d)) at (deleted mem q (l ++ d) [] {ts = ts})
  caught_up mem (Pending.nops a r) = link (idle next LoadRule.nops a) (caught_up mem r)
  caught_up mem (Pending.writes {l} {d} {x} {v} a r) = link (written mem l d a) (caught_up (set mem x v) r)
  caught_up mem (Pending.reads_own a h r) = link (idle next LoadRule.reads_own a h) (caught_up mem r)
  caught_up mem (Pending.reads_seen gone {l} {d} a h r) = link (seen_read mem l d gone a h) (caught_up mem r)

  -- it goes there from u by way of w
  from : {mem : List ℕ} {u w : View} {ts vs : List ℕ} {d : Queue} {m : Message} {b : Queue} {q' : ℕ} {us : List ℕ}
      → Makes (LoadRule s p) u ts w vs → Past s p mem w vs d m b q' us → Past s p mem u ts d m b q' us
  from r past = record { left = past.left; state = past.state; made = past.made; run = link r past.run; rest = past.rest }

  -- or only those up to the next write, with that one
  past_write : (mem : List ℕ) {l d : Queue} {q : ℕ} {ts : List ℕ} {m : Message} {b : Queue} {q' : ℕ} {us : List ℕ} → Pending s p l d q ts (m ∷ b) q' us
      → Past s p mem (view mem q (l ++ d)) ts d m b q' us
  past_write mem (Pending.nops a r) = from (idle next LoadRule.nops a) (past_write mem r)
  past_write mem (Pending.writes {l} {d} {t} {q₁} {ts} a r) =
      record { left = l; state = q₁; made = ts ++ t ∷ []; run = written mem l d a; rest = r }
  past_write mem (Pending.reads_own a h r) = from (idle next LoadRule.reads_own a h) (past_write mem r)
  past_write mem (Pending.reads_seen gone {l} {d} a h r) = from (seen_read mem l d gone a h) (past_write mem r)

-- The load-buffer process, which meets w and has made ts, is behind the store-buffer process, which meets v and has made us.
pub record Behind (s : Program) (p : ℕ) (v : View) (us : List ℕ) (w : View) (ts : List ℕ) : Type 0 where
  pub memory : w.memory ≡ v.memory
  pub pending : Pending s p w.queue [] w.state ts v.queue v.state us

module _ {s : Program} {p : ℕ} where
  -- it makes all that is pending, and empties its queue
  pub levelled : (w : View) {ts : List ℕ} {b : Queue} {q' : ℕ} {us : List ℕ} → Pending s p w.queue [] w.state ts b q' us
      → Makes (LoadRule s p) w ts (view (updated w.memory b) q' []) us
  levelled w r = rw (append-nil w.queue) at (caught_up w.memory r)

  -- however the store-buffer process moves, it can go on so that it is behind again
  pub follow : {v v' : View} {k : Move} {us ts : List ℕ} → AllDrawn s → (w : View) → StoreRule s p v k v' → Behind s p v us w ts
      → (w' : View) × (ts' : List ℕ) × Makes (LoadRule s p) w ts w' ts' × Behind s p v' (noted us k) w' ts'
  follow {ts} all w (StoreRule.nops a) h = (w, ts, idle, record { memory = h.memory; pending = and_nop h.pending a })
  follow {ts} all w (StoreRule.writes a) h = (w, ts, idle, record { memory = h.memory; pending = and_write h.pending a })
  follow all w (StoreRule.updates {x} {v}) h =
      let past = past_write w.memory h.pending in (
        view (set w.memory x v) past.state (past.left ++ own_of x v ∷ []),
        past.made,
        rw (append-nil w.queue) at past.run,
        record { memory = ap (λ (m : List ℕ). set m x v) h.memory; pending = settled (own_of x v) past.rest },
      )
  follow {ts} all w (StoreRule.reads_own a e) h = (w, ts, idle, record { memory = h.memory; pending = and_read_own h.pending a e })
  follow {ts} all w (StoreRule.reads_memory {x} {v} a n e) h = (
    view w.memory w.state (w.queue ++ seen_of x v ∷ []),
    ts,
    rw (← (ap (λ (m : List ℕ). get_or m x 0) h.memory ∙ e)) (idle next LoadRule.propagates (drawn all a).operation.0),
    record { memory = h.memory; pending = and_read_memory h.pending a n },
  )
  follow {us} all w (StoreRule.fences {t} {q'} a) h = (
    view w.memory q' [],
    us ++ t ∷ [],
    levelled w h.pending next LoadRule.fences a,
    record { memory = h.memory; pending = Pending.level },
  )
  follow {us} all w (StoreRule.exchanges {t} {q'} {x} {w = v₁} a e) h = (
    view (set w.memory x v₁) q' [],
    us ++ t ∷ [],
    levelled w h.pending next LoadRule.exchanges a (ap (λ (m : List ℕ). get_or m x 0) h.memory ∙ e),
    record { memory = ap (λ (m : List ℕ). set m x v₁) h.memory; pending = Pending.level },
  )
