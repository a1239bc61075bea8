-- The states and the values of a line and of a row.
use Rattle.std.specs.Prelude.{◌≡◌, ℕ, ◌+◌, ◌-◌, ◌<◌, ◌≤◌, Bool, List, ◌∷◌, ◌++◌, map, length, take, drop, replicate, Ok, Err, slice_index, slice_index_or, slice_set, refl}
use Rattle.std.proofs.Common.{⊎_elim, sym, ap, ◌∙◌, arith}
use Rattle.std.proofs.lemmas.List.{drop_all, drop_more, get_or_append_left, get_or-append_right, get_or-map, get_or-replicate, get_or-take, length-append, length-map, length-replicate, length-take-le, take_more, take_more_set}
use Rattle.std.proofs.lemmas.Bool.{cases_lt}
use Rattle.files.specs.Program.{Program}
use Rattle.files.specs.declared.list_fault.LineFault.{LineFault}
use Rattle.fronts.proofs.Configs.{state_in, value_in}
use Rattle.fronts.proofs.Systems.{limit_state, limit_value}
use Rattle.fronts.specs.Fronts.{FrontFits, front_len, limit_of}
use Rattle.load_buffers.specs.Reading.{Faulty, FrontRead, Slot, below, one, taken, tests, walk}
use Rattle.load_buffers.specs.Rows.{RowFits}
use Rattle.load_buffers.specs.Walks.{taken_err, taken_ok, walk_on}

module _ (s : Program) where
  pub length_tests : length (tests s) ≡ front_len s
  length_tests = simp (length-append, length-map, length-replicate)

  pub state_test : (p : ℕ) (d : ℕ → Bool) → p < length s.states → slice_index_or (tests s) p d ≡ below (slice_index s.states p)
  state_test p d h =
      let n = length-map s.states below in
      get_or_append_left (map below s.states) (replicate s.variables (below s.values)) d p (omega arith) ∙ get_or-map below s.states p 0 d h

  pub value_test : (i : ℕ) (d : ℕ → Bool) → length s.states ≤ i → i < front_len s → slice_index_or (tests s) i d ≡ below s.values
  value_test i d h k =
      get_or-append_right (map below s.states) (replicate s.variables (below s.values)) (length s.states) i d (length-map s.states below) h
      ∙ get_or-replicate s.variables (i - length s.states) (below s.values) d (omega arith)

  -- the limit that the code looks up
  limit_test : (i limit : ℕ) (d : ℕ → Bool) → i < front_len s → limit ≡ limit_of s i → slice_index_or (tests s) i d ≡ below limit
  limit_test i limit d h e =
      ⊎_elim
      (λ k. state_test i d k ∙ ap below (sym (e ∙ limit_state s i k)))
      (λ k. value_test i d k h ∙ ap below (sym (e ∙ limit_value s i k)))
      (cases_lt i (length s.states))

-- i of the states and values are read
pub record Begun (s : Program) (l : List ℕ) (i : ℕ) (row : List ℕ) : Type 0 where
  pub within : i ≤ length l
  pub front : take i row ≡ take i l
  pub on : (ss : List Slot) → walk 0 (map one (tests s) ++ ss) l ≡ walk i (map one (drop i (tests s)) ++ ss) (drop i l)

module _ (s : Program) (l : List ℕ) (i : ℕ) (row : List ℕ) (part : Begun s l i row) where
  module _ (limit : ℕ) (h : i < front_len s) (e : limit ≡ limit_of s i) where
    tests_more : drop i (tests s) ≡ below limit ∷ drop (i + 1) (tests s)
    tests_more =
        let n = length_tests s in
        let d = drop_more (tests s) i (below limit) (omega arith) in
        let t = limit_test s i limit (below limit) h e in
        cc

    pub begun_fault : (f : LineFault) → Err f ≡ taken (below limit) l i → Faulty 0 (map one (tests s)) l f
    begun_fault f k ss =
        part.on ss ∙ rw tests_more (taken_err (one (below limit)) l i f part.within k (map one (drop (i + 1) (tests s)) ++ ss))

    pub begun_more : (b : ℕ) → i < length row → Ok b ≡ taken (below limit) l i → Begun s l (i + 1) (slice_set row i b)
    begun_more b n k =
        let g = taken_ok (below limit) l i b k in
        let m = take_more_set row i b n in
        let o = take_more l i 0 g.0 in
        let v = g.2 in
        let t = part.front in
        record {
          within = omega (arith, g.0);
          front = cc;
          on = λ ss. part.on ss ∙ rw tests_more (walk_on (one (below limit)) (map one (drop (i + 1) (tests s)) ++ ss) l i (slice_index l i) g.0 refl g.1);
        }

  pub begun_all : i ≡ front_len s → FrontRead s l row
  begun_all e =
      let n = length_tests s in
      let d = drop_all i (tests s) (omega arith) in
      let all : (ss : List Slot) → walk 0 (map one (tests s) ++ ss) l ≡ walk i ss (drop i l) = λ ss. rw d at (part.on ss) in
      record { within = omega (arith, part.within); front = rw (← e) part.front; on = rw (← e) all }

-- the front of a row, by its states and its values
module _ (s : Program) (row : List ℕ) (f : ℕ) (here : f ≡ front_len s) where
  front_byte : (i : ℕ) → i < front_len s → slice_index (take f row) i ≡ slice_index row i
  front_byte i h = get_or-take f row i 0 (omega arith)

  pub states_from : FrontFits s (take f row) → (p : ℕ) → p < length s.states → slice_index row p < slice_index s.states p
  states_from g p h = rw (front_byte p (omega arith)) at (state_in g p h)

  pub memory_from : FrontFits s (take f row) → (x : ℕ) → x < s.variables → slice_index row (length s.states + x) < s.values
  memory_from g x h = rw (front_byte (length s.states + x) (omega arith)) at (value_in g x h)

  pub front_from : (most : ℕ) → RowFits s most row → FrontFits s (take f row)
  front_from most g =
      record {
        long = length-take-le f row (omega (arith, g.long)) ∙ omega arith;
        bytes = λ i h. rw (front_byte i h) (⊎_elim
            (λ k. rw (limit_state s i k) (g.states i k))
            (λ k.
            let x = i - length s.states in
            let in_memory : x < s.variables = omega arith in
            let there : length s.states + x ≡ i = omega arith in
            rw (limit_value s i k) (rw there at (g.memory x in_memory)))
            (cases_lt i (length s.states)));
      }
