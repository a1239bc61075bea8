-- All that a bench and the records lent to it hold, and the configuration that this is.
use Rattle.std.specs.Prelude.{◌≡◌, ℕ, ◌+◌, ◌*◌, cond, List, ◌++◌, map, length, take, drop, slice_index}
use Rattle.std.specs.List.{range_with_len}
use Rattle.files.specs.Program.{Program, program, sizes_of, Ranges}
use Rattle.machines.specs.Message.{Queue}
use Rattle.machines.specs.Config.{Config}
use Rattle.queue.specs.Fifo.{Kind}
use Rattle.rules.specs.Rulebook.{Rulebook, room}
use Rattle.bench.specs.declared.bench.Bench.{Bench}

pub record Table (M : Type 0) : Type 0 where
  pub states : List ℕ
  pub memory : List ℕ
  -- how many messages each process has pending
  pub lengths : List ℕ
  -- as many places a process as there is room for its messages
  pub records : List M

-- what a bench shows: so much of its fields as the system has processes and variables
abbrev pub states_of : {R : Type 0} → Bench R → List ℕ
states_of b = take (length (program b.system).states) b.states

abbrev pub memory_of : {R : Type 0} → Bench R → List ℕ
memory_of b = take (program b.system).variables b.memory

abbrev pub lengths_of : {R : Type 0} → Bench R → List ℕ
lengths_of b = take (length (program b.system).states) b.lengths

abbrev pub table_of : {R M : Type 0} → Bench R → List M → Table M
table_of b ms = record { states = states_of b; memory = memory_of b; lengths = lengths_of b; records = ms }

-- one state and one length a process, one value a variable, of a system in range
pub record Sized {R : Type 0} (b : Bench R) : Type 0 where
  pub states : length (states_of b) ≡ length (program b.system).states
  pub memory : length (memory_of b) ≡ (program b.system).variables
  pub lengths : length (lengths_of b) ≡ length (program b.system).states
  pub ranges : Ranges (sizes_of (program b.system))

-- how many records the processes of a program need
abbrev pub needed : {M : Type 0} → Rulebook M → Program → ℕ
needed u s = room u * length s.states

-- the places of process p
abbrev pub part : {M : Type 0} → Rulebook M → ℕ → List M → List M
part u p ms = take (room u) (drop (room u * p) ms)

-- the records, once those places have changed
abbrev pub on_part : {M : Type 0} → Rulebook M → ℕ → (List M → List M) → List M → List M
on_part u p f ms = take (room u * p) ms ++ (f (part u p ms) ++ drop (room u * p + room u) ms)

-- the queue of process p: the first of its places, oldest message first
abbrev pub queue_of : {M : Type 0} → Kind M → Rulebook M → Table M → ℕ → Queue
queue_of k u t p = map k.means (take (slice_index t.lengths p) (part u p t.records))

-- how many queues n processes have
abbrev pub queues : {M : Type 0} → Rulebook M → ℕ → ℕ
queues u n = cond u.buffered n 0

abbrev pub config_of : {M : Type 0} → Kind M → Rulebook M → Table M → Config
config_of k u t =
    record { states = t.states; memory = t.memory; queues = map (queue_of k u t) (range_with_len 0 (queues u (length t.states))) }
