-- Lines and storable rows: each is read back from the other.
use Rattle.std.specs.Prelude.{◌≡◌, ℕ, ◌+◌, ◌-◌, ◌*◌, ◌<◌, ◌≤◌, Bool, true, ltb, List, [], ◌∷◌, ◌++◌, map, length, take, drop, replicate, Some, None, nat_lt, slice_index, slice_index_or}
use Rattle.std.proofs.Common.{⊎_elim, sym, ap, ◌∙◌, arith}
use Rattle.std.proofs.ByRecursion.{All-append}
use Rattle.std.proofs.lemmas.List.{drop_at, drop-drop, get_or-take, length-append, length-drop, length-take, length-take-le, take-append-drop, take_at}
use Rattle.std.proofs.lemmas.Bool.{and_parts, cases_lt, lt-ltb, ltb-true}
use Rattle.std.proofs.lemmas.Bool.Decides.{nat_tests}
use Rattle.std.specs.List.{AllByRecursion}
use Rattle.files.specs.Pieces.{every}
use Rattle.files.specs.Program.{Program, sizes_of}
use Rattle.files.specs.Sizes.{one_to, right_sizes}
use Rattle.files.specs.declared.list_fault.LineFault.{LineFault}
use Rattle.files.specs.declared.list_fault.LineFault.TheVariants.{Byte, Early}
use Rattle.machines.specs.Kind.{IsLine, LineAnswer}
use Rattle.load_buffers.specs.LoadRules.{load_rules}
use Rattle.fronts.specs.Fronts.{front_len}
use Rattle.load_buffers.specs.Lines.{in_use, line_of}
use Rattle.load_buffers.specs.Reading.{below, is_message, line_fault, one, queue, queues, row_of, spread, tests}
use Rattle.load_buffers.specs.Rows.{Storable}
use Rattle.load_buffers.specs.Fronts.{length_tests, state_test, value_test}
use Rattle.load_buffers.specs.Passing.{Passing, passing_at, passing_from, passing_in, passing_out}
use Rattle.load_buffers.specs.Slots.{Opens, Reads, all_same, line_answer, opens_tests}
use Rattle.load_buffers.specs.Stored.{Held, queues_from, queues_to, use_short}

abbrev First : (ℕ → Bool) → Type 0
First t = t 0 ≡ true

one_open : (n : ℕ) → one_to 16 n ≡ true → nat_lt 0 n ≡ true
one_open n h = grind (arith, nat_tests)

states_open : (ns : List ℕ) → every (one_to 16) ns ≡ true → AllByRecursion First (map below ns)
states_open [] e = tt
states_open (n ∷ ns) e = let p = and_parts (one_to 16 n) (every (one_to 16) ns) e in (one_open n p.0, states_open ns p.1)

-- with a fault it is no line
no_line : (s : Program) (l : List ℕ) (f : LineFault) → LineAnswer (load_rules s) l (Some f) → IsLine (load_rules s) l → ⊥
no_line s l (Byte i) a h = a.2 (drop (i + 1) l, (h.0, (h.1.0, take-append-drop (i + 1) l ∙ h.1.1)))
no_line s l (Early n) a h = a.2 h

module _ (s : Program) where
  -- a storable row in two parts
  module _ (r : List ℕ) (h : Storable s r) where
    state_passes : (i : ℕ) (d : ℕ → Bool) → i < length s.states → slice_index_or (tests s) i d (slice_index r i) ≡ true
    state_passes i d k = rw (state_test s i d k) (lt-ltb (slice_index r i) (slice_index s.states i) (h.states i k))

    value_passes : (i : ℕ) (d : ℕ → Bool) → i < front_len s → length s.states ≤ i → slice_index_or (tests s) i d (slice_index r i) ≡ true
    value_passes i d k j =
        let o : length s.states + (i - length s.states) ≡ i = omega arith in
        let v : slice_index_or r i 0 < s.values = rw o at (h.memory (i - length s.states) (omega arith)) in
        rw (value_test s i d j k) (lt-ltb (slice_index r i) s.values v)

    front_at : (i : ℕ) (d : ℕ → Bool) → i < front_len s → slice_index_or (tests s) i d (slice_index (take (front_len s) r) i) ≡ true
    front_at i d k = rw (get_or-take (front_len s) r i 0 k) (⊎_elim (state_passes i d) (value_passes i d k) (cases_lt i (length s.states)))

    front_long : length (take (front_len s) r) ≡ front_len s
    front_long = length-take-le (front_len s) r (omega (arith, h.long))

    front_passes : Passing (tests s) (take (front_len s) r)
    front_passes =
        let n = length_tests s in
        passing_from (tests s) (take (front_len s) r) (front_long ∙ sym n) (λ i d k. front_at i d (omega arith))

    queues_held : Held (sizes_of s) (length s.states) (drop (front_len s) r)
    queues_held = (simp length-drop (omega (arith, h.long)), λ p k. rw (drop-drop (10 * p) (front_len s) r) (h.queues p k))

    queues_read : Reads (queues s) (in_use (length s.states) (drop (front_len s) r)) × (spread (length s.states) (in_use (length s.states) (drop (front_len s) r)) ≡ drop (front_len s) r)
    queues_read = queues_to (sizes_of s) (length s.states) (drop (front_len s) r) queues_held

    -- its line is read, as that row
    line_reads : Reads (map one (tests s) ++ queues s) (line_of s r)
    line_reads = passing_in (tests s) (queues s) (take (front_len s) r) (in_use (length s.states) (drop (front_len s) r)) front_passes queues_read.0

    row_of_line_lem : row_of s (line_of s r) ≡ r
    row_of_line_lem =
        let w = in_use (length s.states) (drop (front_len s) r) in
        let t = take_at (take (front_len s) r) w (front_len s) front_long in
        let d = drop_at (take (front_len s) r) w (front_len s) front_long in
        let e = queues_read.1 in
        rw (t, d, e) (take-append-drop (front_len s) r)

    pub line_short : length (line_of s r) ≤ front_len s + 9 * length s.states
    line_short =
        let u = use_short (sizes_of s) (length s.states) (drop (front_len s) r) queues_held in simp (length-append, length-take) (omega arith)

  passed_at : (r : List ℕ) → Passing (tests s) (take (front_len s) r) → (i : ℕ) → i < front_len s → slice_index_or (tests s) i (below 0) (slice_index r i) ≡ true
  passed_at r f i k =
      let n = length_tests s in
      rw (get_or-take (front_len s) r i 0 k) at (passing_at (tests s) (take (front_len s) r) i (below 0) f (omega arith))

  storable_from : (r : List ℕ) → length r ≡ front_len s + 10 * length s.states → Passing (tests s) (take (front_len s) r) → Held (sizes_of s) (length s.states) (drop (front_len s) r) → Storable s r
  storable_from r long f q =
      record {
        long = long;
        states = λ p k. ltb-true (slice_index r p) (slice_index s.states p) (rw (state_test s p (below 0) k) at (passed_at r f p (omega arith)));
        memory = λ x k.
            let i = length s.states + x in
            ltb-true (slice_index r i) s.values (rw (value_test s i (below 0) (omega arith) (omega arith)) at (passed_at r f i (omega arith)));
        queues = λ p k. rw (drop-drop (10 * p) (front_len s) r) at (q.1 p k);
      }

  -- what is read is the line of its row
  line_of_row : (l : List ℕ) → Reads (map one (tests s) ++ queues s) l → Storable s (row_of s l) × (l ≡ line_of s (row_of s l))
  line_of_row l r =
      let P = length s.states in
      let F = front_len s in
      let o = passing_out (tests s) (queues s) l F (length_tests s) r in
      let q = queues_from (sizes_of s) P (drop F l) o.2 in
      let m : length (take F l) ≡ F = length-take-le F l o.0 in
      let t : take F (row_of s l) ≡ take F l = take_at (take F l) (spread P (drop F l)) F m in
      let d : drop F (row_of s l) ≡ spread P (drop F l) = drop_at (take F l) (spread P (drop F l)) F m in
      let u = q.1 in
      let n : length (row_of s l) ≡ F + 10 * P = simp length-append (omega (arith, q.0.0)) in (
        storable_from (row_of s l) n (rw t o.1) (rw d q.0),
        rw (t, d, u) (sym (take-append-drop F l)),
      )

  -- every limit is at least 1
  module _ (right : right_sizes s.states s.variables s.values ≡ true) where
    opens_all : AllByRecursion Opens (map one (tests s) ++ queues s)
    opens_all =
        let e : every (one_to 16) s.states ≡ true = grind (arith, nat_tests) in
        let v : ltb 0 s.values ≡ true = grind (arith, nat_tests) in
        let m : is_message (sizes_of s) 0 ≡ true = grind (arith, nat_tests) in
        All-append Opens (map one (tests s)) (queues s)
        (opens_tests (tests s) (All-append First (map below s.states) (replicate s.variables (below s.values)) (states_open s.states e) (all_same First s.variables (below s.values) v)))
        (all_same Opens (length s.states) (queue (sizes_of s)) m)

    pub fault_answer : (l : List ℕ) → LineAnswer (load_rules s) l (line_fault s l)
    fault_answer l =
        line_answer (load_rules s) (map one (tests s) ++ queues s) l
        (λ x h. rw h.1.1 (line_reads h.0 h.1.0))
        (λ x h. let p = line_of_row x h in (row_of s x, (p.0, p.1)))
        opens_all

    pub fault_none : (l : List ℕ) → line_fault s l ≡ None → Storable s (row_of s l) × (l ≡ line_of s (row_of s l)) × ((r : List ℕ) → Storable s r → l ≡ line_of s r → r ≡ row_of s l)
    fault_none l e =
        let h : IsLine (load_rules s) l = rw e at (fault_answer l) in
        let same : (r : List ℕ) → Storable s r → l ≡ line_of s r → r ≡ row_of s l = λ r k f. sym (ap (row_of s) f ∙ row_of_line_lem r k) in
        let at = same h.0 h.1.0 h.1.1 in
        (rw (← at) h.1.0, rw (← at) h.1.1, same)

    pub fault_some : (l : List ℕ) (f : LineFault) → line_fault s l ≡ Some f → IsLine (load_rules s) l → ⊥
    fault_some l f e h = no_line s l f (rw e at (fault_answer l)) h
