-- What the calls of a bench do, as definitions that can be run.
use Rattle.std.specs.Prelude.{◌≡◌, ℕ, zero, suc, ◌+◌, ◌/◌, ◌%◌, Bool, cond, not, ◌&&◌, List, ◌++◌, length, drop, replicate, Some, None, Ok, Err, Option, Result, nat_lt, slice_index, slice_index_or, slice_set}
use Rattle.std.specs.Option.{option_map}
use Rattle.files.specs.Program.{Program}
use Rattle.machines.specs.Message.{Message}
use Rattle.machines.specs.Step.{number_of}
use Rattle.queue.specs.Fifo.{Kind}
use Rattle.rules.specs.declared.act.Deed.{Deed}
use Rattle.bench.specs.declared.fault.BenchFault.{BenchFault}
use Rattle.bench.specs.declared.fault.BenchFault.TheVariants.{Short, Wrong, Impossible}
use Rattle.bench.specs.declared.perform.Hindrance.{Hindrance}
use Rattle.bench.specs.Deeds.{deed_of}
use Rattle.bench.specs.Perform.{Sight, performed, fault_of}
use Rattle.rules.specs.Rulebook.{Rulebook, most}
use Rattle.bench.specs.Table.{Table, needed, part, on_part, queue_of}

-- an answer, and what is held afterwards
pub record Outcome (M : Type 0) : Type 0 where
  pub answer : Result (Unit {0}) BenchFault
  pub after : Table M

-- a refusal leaves all as it was
abbrev pub refused : {M : Type 0} → BenchFault → Table M → Outcome M
refused f t = record { answer = Err f; after = t }

abbrev pub done : {M : Type 0} → Table M → Outcome M
done t = record { answer = Ok tt; after = t }

-- refused where there is a fault, else the outcome
abbrev pub unless : {M : Type 0} → Option BenchFault → Table M → Outcome M → Outcome M
unless (Some f) t o = refused f t
unless None t o = o

-- the lowest of n numbers from i on that passes
unfoldable pub lowest : (ℕ → Bool) → ℕ → ℕ → Option ℕ
lowest test zero i = None
lowest test (suc n) i = cond (test i) (Some i) (lowest test n (i + 1))

-- a message with a variable and a value of the program
abbrev pub fits : Program → Message → Bool
fits s m = nat_lt m.variable s.variables && nat_lt m.value s.values

-- a message is queued at place i, and does not fit
abbrev pub wrong_at : {M : Type 0} → Kind M → Program → List ℕ → List M → ℕ → Bool
wrong_at k s lengths ms i = nat_lt (i % most) (slice_index lengths (i / most)) && not (fits s (k.means (slice_index_or ms i k.zero)))

abbrev pub short : {M : Type 0} → Rulebook M → Program → List M → Option BenchFault
short u s ms = cond (nat_lt (length ms) (needed u s)) (Some (Short (needed u s))) None

-- why the records lent cannot be played on
abbrev pub unready : {M : Type 0} → Kind M → Rulebook M → Program → Table M → Option BenchFault
unready k u s t =
    cond (nat_lt (length t.records) (needed u s)) (Some (Short (needed u s))) (option_map Wrong (lowest (wrong_at k s t.lengths t.records) (needed u s) 0))

-- the start: all states and variables 0, no message, and the places of the processes zero
abbrev pub started : {M : Type 0} → Kind M → Rulebook M → Program → Table M → Table M
started k u s t =
    record { states = replicate (length s.states) 0; memory = replicate s.variables 0; lengths = replicate (length s.states) 0; records = replicate (needed u s) k.zero ++ drop (needed u s) t.records }

abbrev pub begun : {M : Type 0} → Kind M → Rulebook M → Program → Table M → Outcome M
begun k u s t = unless (short u s t.records) t (done (started k u s t))

-- the deed has been done
abbrev pub enacted : {M : Type 0} → Rulebook M → Table M → Deed → Sight M → Table M
enacted u t d v =
    record { states = slice_set t.states d.process d.state; memory = v.memory; lengths = slice_set t.lengths d.process v.count; records = on_part u d.process (λ _. v.places) t.records }

abbrev pub by_performed : {M : Type 0} → Rulebook M → Table M → ℕ → Deed → Result (Sight M) Hindrance → Outcome M
by_performed u t n d (Ok v) = done (enacted u t d v)
by_performed u t n d (Err h) = refused (fault_of d.process n h) t

abbrev pub by_deed : {M : Type 0} → Kind M → Rulebook M → Table M → ℕ → Option Deed → Outcome M
by_deed k u t n None = refused (Impossible n) t
by_deed k u t n (Some d) =
    by_performed u t n d (performed k u d.act (slice_index t.lengths d.process) t.memory (part u d.process t.records))

-- one move
abbrev pub played : {M : Type 0} → Kind M → Rulebook M → Program → Table M → ℕ → Outcome M
played k u s t n = unless (unready k u s t) t (by_deed k u t n (deed_of s t.states n))

-- go on from what a call has left, unless it refused
abbrev pub onward : {M : Type 0} → Result (Unit {0}) BenchFault → Table M → (Table M → Outcome M) → Outcome M
onward (Ok x) t f = f t
onward (Err e) t f = refused e t

-- the same move so many times
unfoldable pub repeated : {M : Type 0} → Kind M → Rulebook M → Program → ℕ → ℕ → Table M → Outcome M
repeated k u s m zero t = done t
repeated k u s m (suc n) t = onward (played k u s t m).answer (played k u s t m).after (repeated k u s m n)

-- the oldest message of process p is taken as often as it has messages
abbrev pub drained : {M : Type 0} → Kind M → Rulebook M → Program → Table M → ℕ → Outcome M
drained k u s t p =
    unless (unready k u s t) t
    (cond (nat_lt p (length s.states)) (repeated k u s (number_of p u.emptying) (length (queue_of k u t p)) t) (refused (Impossible (88 + p)) t))

-- this was the answer, and this is held
abbrev pub Came : {M : Type 0} → Outcome M → Result (Unit {0}) BenchFault → Table M → Type 0
Came o r t = (r ≡ o.answer) × (t ≡ o.after)
