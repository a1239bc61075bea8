-- A load-buffer run from the start stays among the configurations of the program.
use Rattle.std.proofs.Common.{ℕ, zero, suc, ◌<◌, ◌≤◌, List, [], ◌∷◌, length, get_or, replicate}
use lib.ListN.{length-replicate}
use Rattle.std.specs.List.{AllByRecursion}
use Rattle.std.proofs.ByRecursion.{All-append}
use Rattle.std.proofs.lemmas.List.{get_or-replicate}
use Rattle.files.specs.Program.{Program}
use Rattle.files.specs.declared.transition.Operation.{Operation}
use Rattle.machines.specs.Message.{Queue, own_of, seen_of}
use Rattle.machines.specs.Config.{Config, View, view, Fits, InRange}
use Rattle.machines.specs.LoadBuffers.{LoadRule, LoadStep, load_start}
use Rattle.machines.specs.Predecessors.{AllDrawn}
use Rattle.machines.specs.Step.{Move, Leads, moves, Runs, stay, ◌then◌}
use Rattle.machines.proofs.Configs.{in_view, in_range}
use Rattle.machines.proofs.Views.{Valued, InView, drawn, valued_set}

left : {s : Program} {p t q q' : ℕ} {o : Operation} {mem : List ℕ} {b : Queue} → AllDrawn s → Leads s t p q o q' → Valued s mem → AllByRecursion (Fits s) b
    → InView s p (view mem q' b)
left all lead h fits = record { state = (drawn all lead).after; memory = h; messages = fits }

-- what a process meets after a move is of the program
view_stays : {s : Program} {p : ℕ} {v w : View} {k : Move} → AllDrawn s → InView s p v → LoadRule s p v k w → InView s p w
view_stays all z (LoadRule.nops l) = left all l z.memory z.messages
view_stays {s} all z (LoadRule.writes {b} {x} {v} l) =
    let d = (drawn all l).operation in
    left all l (valued_set x v z.memory d.1) (All-append (Fits s) b (own_of x v ∷ []) z.messages (record { variable = d.0; value = d.1 }, tt))
view_stays {s} all z (LoadRule.propagates {mem} {b} {x} h) =
    record {
      state = z.state;
      memory = z.memory;
      messages = All-append (Fits s) b (seen_of x (get_or mem x 0) ∷ []) z.messages (record { variable = h; value = z.memory.values x h }, tt);
    }
view_stays all z LoadRule.deletes = record { state = z.state; memory = z.memory; messages = z.messages.1 }
view_stays all z (LoadRule.reads_own l e) = left all l z.memory z.messages
view_stays all z (LoadRule.reads_seen l e) = left all l z.memory z.messages
view_stays all z (LoadRule.fences l) = left all l z.memory tt
view_stays all z (LoadRule.exchanges {x} {w} l e) = left all l (valued_set x w z.memory (drawn all l).operation.2) tt

pub load_stays : {s : Program} {c d : Config} {k : ℕ} → AllDrawn s → InRange s (length s.states) c → LoadStep s c k d → InRange s (length s.states) d
load_stays all z (moves h r) = in_range z h (view_stays all (in_view z h) r)

-- the steps of the machine between its configurations
abbrev pub RangeStep : Program → Config → ℕ → Config → Type 0
RangeStep s c k d = InRange s (length s.states) c × LoadStep s c k d

pub run_stays : {s : Program} {c d : Config} {ks : List ℕ} → AllDrawn s → InRange s (length s.states) c → Runs (LoadStep s) c ks d
    → Runs (RangeStep s) c ks d × InRange s (length s.states) d
run_stays all z stay = (stay, z)
run_stays all z (r then s) = let (run, here) = run_stays all z r in (run then (here, s), load_stays all here s)

all_empty : (s : Program) (n : ℕ) → AllByRecursion (AllByRecursion (Fits s)) (replicate n [])
all_empty s zero = tt
all_empty s (suc n) = (tt, all_empty s n)

pub start_in_range : (s : Program) → 1 ≤ s.values → ((p : ℕ) → p < length s.states → 1 ≤ get_or s.states p 0) → InRange s (length s.states) (load_start s)
start_in_range s some counts =
    record {
      processes = length-replicate (length s.states) 0;
      variables = length-replicate s.variables 0;
      queued = length-replicate {A = Queue} (length s.states) [];
      states = λ p h. rw (get_or-replicate {A = ℕ} (length s.states) p 0 0 h) (counts p h);
      values = λ x h. rw (get_or-replicate {A = ℕ} s.variables x 0 0 h) some;
      messages = all_empty s (length s.states);
    }
