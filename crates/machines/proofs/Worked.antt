-- The worked examples, step by step.
use Rattle.std.proofs.Common.{◌≡◌, ℕ, [], ◌∷◌, sym, refl, ap, arith, lit<}
use mathlib.Core.List.{cons≢nil}
use Rattle.files.specs.declared.transition.Operation.{Operation}
use Rattle.files.specs.declared.transition.Operation.TheVariants.{Read, Write}
use Rattle.files.specs.declared.transition.Transition.{Transition}
use Rattle.machines.specs.Config.{Config, View}
use Rattle.machines.specs.Step.{Move, transition, propagate, delete, update, Leads, moves, stay, ◌then◌}
use Rattle.machines.specs.StoreBuffers.{StoreRule}
use Rattle.machines.specs.LoadBuffers.{LoadRule}
use Rattle.machines.specs.Plain.{PlainRule, PlainStep}
use Rattle.machines.specs.Examples.{crossing, StoresWait, StoresArrive, PlainStops, LoadsAhead, LeavesOut}
use Rattle.machines.proofs.Walk.{end, keep, omit}
use Rattle.machines.proofs.Literal.{below_from_walk}

first_writes : Leads crossing 0 0 0 (Write 0 1) 1
first_writes = record { listed = lit< tt; entry = λ d. refl }

first_reads : Leads crossing 1 0 1 (Read 1 0) 2
first_reads = record { listed = lit< tt; entry = λ d. refl }

second_writes : Leads crossing 2 1 0 (Write 1 1) 1
second_writes = record { listed = lit< tt; entry = λ d. refl }

second_reads : Leads crossing 3 1 1 (Read 0 0) 2
second_reads = record { listed = lit< tt; entry = λ d. refl }

pub stores_wait : StoresWait
stores_wait =
    stay
    then moves {p = 0} (lit< tt) (StoreRule.writes first_writes)
    then moves {p = 0} (lit< tt) (StoreRule.reads_memory first_reads refl refl)
    then moves {p = 1} (lit< tt) (StoreRule.writes second_writes)
    then moves {p = 1} (lit< tt) (StoreRule.reads_memory second_reads refl refl)

pub stores_arrive : StoresArrive
stores_arrive = stay then moves {p = 0} (lit< tt) StoreRule.updates then moves {p = 1} (lit< tt) StoreRule.updates

pub loads_ahead : LoadsAhead
loads_ahead =
    stay
    then moves {p = 0} (lit< tt) (LoadRule.propagates {x = 1} (lit< tt))
    then moves {p = 1} (lit< tt) (LoadRule.propagates {x = 0} (lit< tt))
    then moves {p = 0} (lit< tt) (LoadRule.writes first_writes)
    then moves {p = 0} (lit< tt) (LoadRule.reads_seen first_reads refl)
    then moves {p = 1} (lit< tt) (LoadRule.writes second_writes)
    then moves {p = 1} (lit< tt) (LoadRule.reads_seen second_reads refl)

apart : ◌≡◌ {A = ℕ} 0 1 → ⊥
apart e = omega arith

-- transition 3 reads 0 from variable 0, which holds 1
is_read : {t p q q' : ℕ} {o : Operation} → Leads crossing t p q o q' → t ≡ 3 → o ≡ Read 0 0
is_read {t} {p} {q} {q'} {o} l e =
    let it : Transition = record { process = p; before = q; operation = o; after = q' } in
    sym (ap (λ (i : Transition). i.operation) (rw e at (l.entry it)))

no_read : {p : ℕ} {v w : View} {k : Move} → PlainRule crossing p v k w → k ≡ transition 3 → v.memory ≡ 1 ∷ 1 ∷ [] → ⊥
no_read (PlainRule.nops l) e m = let o = is_read l (cc) in apart cc
no_read (PlainRule.fences l) e m = let o = is_read l (cc) in apart cc
no_read (PlainRule.reads l h) e m = let o = is_read l (cc) in apart cc
no_read (PlainRule.writes l) e m = let o = is_read l (cc) in apart cc
no_read (PlainRule.exchanges l h) e m = let o = is_read l (cc) in apart cc

no_step : {c d : Config} {k : ℕ} → PlainStep crossing c k d → k ≡ 3 → c.memory ≡ 1 ∷ 1 ∷ [] → ⊥
no_step (moves {k = transition t} h r) e m = no_read r (ap transition e) m
no_step (moves {k = propagate x} h r) e m = omega arith
no_step (moves {k = delete} h r) e m = omega arith
no_step (moves {k = update} h r) e m = omega arith

pub plain_stops : PlainStops
plain_stops = (
  stay
      then moves {p = 0} (lit< tt) (PlainRule.writes first_writes)
      then moves {p = 0} (lit< tt) (PlainRule.reads first_reads refl)
      then moves {p = 1} (lit< tt) (PlainRule.writes second_writes),
  λ d r. no_step r refl refl,
)

pub leaves_out : LeavesOut
leaves_out =
    record {
      seen = below_from_walk (omit refl (keep end));
      older = below_from_walk (omit refl (keep end));
      only = λ b. cons≢nil (sym b.same_dividers);
      newer = λ b. let e = b.same_dividers in apart cc;
    }
