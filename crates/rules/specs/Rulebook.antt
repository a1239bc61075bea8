-- The rules of a machine, as the bench plays them and as they are published.
use Rattle.std.specs.Prelude.{◌≡◌, ℕ, ◌<◌, Bool, false, cond, List, [], ◌∷◌, ◌++◌, drop, Some, None, Option, slice_set}
use Rattle.files.specs.Program.{Program}
use Rattle.files.specs.declared.transition.Operation.{Operation}
use Rattle.machines.specs.Message.{Queue}
use Rattle.machines.specs.Config.{View, view}
use Rattle.machines.specs.Step.{Move, transition, propagate, delete, update, Leads}
use Rattle.queue.specs.Fifo.{Kind}
use Rattle.rules.specs.declared.act.Act.{Act}
use Rattle.rules.specs.declared.act.Act.TheVariants.{Operate, Propagate, Delete, Update}
use Rattle.rules.specs.declared.effect.Change.{Change}
use Rattle.rules.specs.declared.effect.Change.TheVariants.{Keep, Join, Leave}
use Rattle.rules.specs.declared.effect.Effect.{Effect}
use Rattle.rules.specs.declared.effect.Write.{Write}

-- the most messages that a process may have pending on a machine with queues
abbrev pub most : ℕ
most = 8

-- Whether there are queues, what an act does at a memory and a queue, if it is possible, the move that takes the oldest message of a
-- process, and the published rule of a process.
pub record Rulebook (M : Type 0) : Type 1 where
  pub buffered : Bool
  pub effect : Act → List ℕ → Queue → Option (Effect M)
  pub emptying : Move
  pub Rule : Program → ℕ → View → Move → View → Type 0

abbrev pub room : {M : Type 0} → Rulebook M → ℕ
room u = cond u.buffered most 0

abbrev pub written : Option Write → List ℕ → List ℕ
written None m = m
written (Some w) m = slice_set m w.variable w.value

abbrev pub changed : {M : Type 0} → Kind M → Change M → Queue → Queue
changed k Keep q = q
changed k (Join m) q = q ++ k.means m ∷ []
changed k Leave q = drop 1 q

-- what the process meets after an effect, in its new state
abbrev pub applied : {M : Type 0} → Kind M → Effect M → ℕ → View → View
applied k e q' v = view (written e.write v.memory) q' (changed k e.change v.queue)

-- A move of process p in state q is this act, and leads to state q'.
abbrev pub Is : Program → ℕ → ℕ → Move → Act → ℕ → Type 0
Is s p q (transition t) a q' = (o : Operation) × Leads s t p q o q' × (a ≡ Operate o)
Is s p q (propagate x) a q' = (x < s.variables) × (a ≡ Propagate x) × (q' ≡ q)
Is s p q delete a q' = (a ≡ Delete) × (q' ≡ q)
Is s p q update a q' = (a ≡ Update) × (q' ≡ q)

-- what process p meets changes so by an act and its effect
abbrev pub Acted : {M : Type 0} → Kind M → Rulebook M → Program → ℕ → View → Move → View → Type 0
Acted {M} k u s p v mv v' =
    (a : Act) × ((q' : ℕ) × ((e : Effect M) × (Is s p v.state mv a q' × (u.effect a v.memory v.queue ≡ Some e) × (v' ≡ applied k e q' v))))

-- The effects are those of the published rule: whatever they do, it allows, and they do whatever it allows.
pub record Exact {M : Type 0} (k : Kind M) (u : Rulebook M) : Type 0 where
  pub sound : (s : Program) (p : ℕ) (v : View) (mv : Move) (a : Act) (q' : ℕ) (e : Effect M)
      → Is s p v.state mv a q'
      → u.effect a v.memory v.queue ≡ Some e
      → u.Rule s p v mv (applied k e q' v)
  pub complete : (s : Program) (p : ℕ) (v v' : View) (mv : Move) → u.Rule s p v mv v' → Acted k u s p v mv v'
  -- with no queues, none changes
  pub bare : u.buffered ≡ false → (a : Act) (m : List ℕ) (q : Queue) (e : Effect M) → u.effect a m q ≡ Some e → e.change ≡ Keep
  -- the emptying move is an act that takes the oldest message, and leaves the state
  pub empties : (a : Act) × (((s : Program) (p q : ℕ) → Is s p q u.emptying a q) × ((m : List ℕ) (q : Queue) (e : Effect M) → u.effect a m q ≡ Some e → e.change ≡ Leave))
