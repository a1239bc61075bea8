-- What a system says, as plain lists.
use Rattle.std.specs.Prelude.{◌≡◌, ℕ, ◌<◌, ◌≤◌, List, length, IfSome, None, vec_items, slice_index, slice_index_or}
use Rattle.files.specs.declared.pattern.Pattern.{Pattern}
use Rattle.files.specs.declared.sizes.Sizes.{Sizes}
use Rattle.files.specs.declared.system.System.{System}
use Rattle.files.specs.declared.transition.Operation.{Operation}
use Rattle.files.specs.declared.transition.Operation.TheVariants.{Nop, Read, Write, Fence, Exchange}
use Rattle.files.specs.declared.transition.Transition.{Transition}

pub record Program : Type 0 where
  -- the state count of each process
  pub states : List ℕ
  pub variables : ℕ
  pub values : ℕ
  pub transitions : List Transition
  pub patterns : List Pattern

abbrev pub program : System → Program
program s =
    record { states = vec_items s.states; variables = s.variables; values = s.values; transitions = vec_items s.transitions; patterns = vec_items s.patterns }

abbrev pub sizes_of : Program → Sizes
sizes_of p =
    record { processes = length p.states; variables = p.variables; values = p.values; transitions = length p.transitions; patterns = length p.patterns }

abbrev pub Between : ℕ → ℕ → ℕ → Type 0
Between low high n = (low ≤ n) × (n ≤ high)

pub record Ranges (s : Sizes) : Type 0 where
  pub processes : Between 1 4 s.processes
  pub variables : Between 1 4 s.variables
  pub values : Between 1 4 s.values
  pub transitions : s.transitions ≤ 64
  pub patterns : s.patterns ≤ 16

-- an operation on the variables and values of a system
abbrev pub On : Program → Operation → Type 0
On p Nop = Unit {0}
On p (Read v a) = (v < p.variables) × (a < p.values)
On p (Write v a) = (v < p.variables) × (a < p.values)
On p Fence = Unit {0}
On p (Exchange v a b) = (v < p.variables) × (a < p.values) × (b < p.values)

-- a transition between the states of a process of a system
pub record Drawn (p : Program) (t : Transition) : Type 0 where
  pub process : t.process < length p.states
  pub before : t.before < slice_index p.states t.process
  pub after : t.after < slice_index p.states t.process
  pub operation : On p t.operation

-- a pattern that names states of the processes of a system
pub record Fitting (p : Program) (q : Pattern) : Type 0 where
  pub named : (k : ℕ) → k < length p.states → IfSome (slice_index_or q.states k None) (λ s. s < slice_index p.states k)
  pub past : (k : ℕ) → length p.states ≤ k → k < 4 → slice_index_or q.states k None ≡ None
