-- What every system's program is known for.
use Rattle.std.proofs.Common.{◌≡◌, ℕ, ◌<◌, ◌≤◌, ◌&&◌, length, get_or, Some, vec_items, unwrap_or, ap, ⊎_elim, arith}
use Rattle.std.proofs.lemmas.Option.{slice_get-get_or, slice_get_past}
use Rattle.std.proofs.lemmas.Bool.{and_parts, cases_lt}
use Rattle.std.specs.List.{slice_get}
use Rattle.files.proofs.Invariant.{between_from, drawn_from, every_at, fitting_from}
use Rattle.files.specs.Pattern.{fits}
use Rattle.files.specs.Pieces.{every}
use Rattle.files.specs.Program.{Between, Drawn, Fitting, Program, program}
use Rattle.files.specs.Sizes.{one_to}
use Rattle.files.specs.Transition.{is_drawn}
use Rattle.files.specs.declared.pattern.Pattern.{Pattern}
use Rattle.files.specs.declared.system.System.{System}
use Rattle.files.specs.declared.transition.Transition.{Transition}
use Rattle.fronts.specs.Fronts.{limit_of}

pub record Known (s : Program) : Type 0 where
  pub processes : Between 1 4 (length s.states)
  pub variables : Between 1 4 s.variables
  pub values : Between 1 4 s.values
  pub states : (p n : ℕ) → slice_get s.states p ≡ Some n → Between 1 16 n
  pub transitions : length s.transitions ≤ 64
  pub patterns : length s.patterns ≤ 16
  pub drawn : (i : ℕ) (t : Transition) → slice_get s.transitions i ≡ Some t → Drawn s t
  pub fitting : (i : ℕ) (p : Pattern) → slice_get s.patterns i ≡ Some p → Fitting s p

pub known : (m : System) → Known (program m)
known m =
    let states = vec_items m.states in
    let (a, rest) = and_parts (one_to 4 (length states)) (one_to 4 m.variables && (one_to 4 m.values && every (one_to 16) states)) m.sized in
    let (b, rest) = and_parts (one_to 4 m.variables) (one_to 4 m.values && every (one_to 16) states) rest in
    let (d, e) = and_parts (one_to 4 m.values) (every (one_to 16) states) rest in
    let processes = between_from 4 (length states) a in
    record {
      processes = processes;
      variables = between_from 4 m.variables b;
      values = between_from 4 m.values d;
      states = λ p n h. between_from 16 n (every_at (one_to 16) states p n h e);
      transitions = m.few;
      patterns = m.short;
      drawn = λ i t h. drawn_from (program m) t (every_at (is_drawn states m.variables m.values) (vec_items m.transitions) i t h m.drawn);
      fitting = λ i p h. fitting_from (program m) p processes.1 (every_at (fits states) (vec_items m.patterns) i p h m.fitting);
    }

-- how many bytes may stand at the place of a state, and at that of a value
pub limit_state : (s : Program) (i : ℕ) → i < length s.states → limit_of s i ≡ get_or s.states i 0
limit_state s i h = ap (λ o. unwrap_or o s.values) (slice_get-get_or s.states i 0 h)

pub limit_value : (s : Program) (i : ℕ) → length s.states ≤ i → limit_of s i ≡ s.values
limit_value s i h = ap (λ o. unwrap_or o s.values) (slice_get_past s.states i h)

pub count_range : {s : Program} → Known s → (i : ℕ) → i < length s.states → Between 1 16 (get_or s.states i 0)
count_range {s} k i h = k.states i (get_or s.states i 0) (slice_get-get_or s.states i 0 h)

pub limit_range : {s : Program} → Known s → (i : ℕ) → Between 1 16 (limit_of s i)
limit_range {s} k i =
    ⊎_elim
    (λ h. rw (limit_state s i h) (count_range k i h))
    (λ h. rw (limit_value s i h) (omega arith, omega arith))
    (cases_lt i (length s.states))
