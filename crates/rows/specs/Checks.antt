-- The checks that calls make. They run in order, and the first that fails turns the call down.
use Rattle.std.specs.Prelude.{◌≡◌, ℕ, ◌+◌, ◌*◌, ◌/◌, ◌<◌, ◌≤◌, min, Bool, true, false, cond, ◌⊎◌, List, length, Some, None, Ok, Err, Result}
use Rattle.files.specs.Bytes.{two}
use Rattle.files.specs.Directory.{dir_fault, line_of}
use Rattle.files.specs.declared.list_fault.LineFault.{LineFault}
use Rattle.files.specs.declared.list_fault.ListFault.TheVariants.{Directory, Line as Wrong}
use Rattle.machines.specs.Config.{Config}
use Rattle.machines.specs.Kind.{Kind, Rules, IsLine, LineAnswer}
use Rattle.rows.specs.declared.fault.FolderFault.{FolderFault}
use Rattle.rows.specs.declared.fault.FolderFault.TheVariants.{Short, List as Listed, Line as OneLine, NoLine, Unstorable, StartInside, Full, NothingStorable}
use Rattle.rows.specs.Search.{Lowest, Never, Line}
use Rattle.rows.specs.Standing.{zeros}
use Rattle.rows.specs.Cover.{AllStorable, AtStart, Missing, NoneStorable, NothingMissing, Unstored}

-- how a check fails, by the fault that it is told by, and what holds where it passes
pub record Check : Type 1 where
  pub Fails : FolderFault → Type 0
  pub Passes : Type 0

infixr 20 ◌before◌
-- the second check is made where the first passes
abbrev pub ◌before◌ : Check → Check → Check
a before b = record { Fails = λ e. a.Fails e ⊎ (a.Passes × b.Fails e); Passes = a.Passes × b.Passes }

-- the answer of a call that makes a check first, and then does what Does says
abbrev pub Answered : {A : Type 0} → Check → (A → Type 0) → Result A FolderFault → Type 0
Answered c Does (Ok x) = c.Passes × Does x
Answered c Does (Err e) = c.Fails e

-- so many bytes are long enough
abbrev pub long_enough : ℕ → ℕ → Check
long_enough needed given = record { Fails = λ e. (given < needed) × (e ≡ Short needed); Passes = needed ≤ given }

-- memory holds n rows of w bytes
abbrev pub holds_rows : ℕ → ℕ → ℕ → Check
holds_rows w n memory = long_enough (n * w) memory

-- the directory of a list file is right
abbrev pub right_directory : List ℕ → Check
right_directory file =
    record { Fails = λ e. (at : ℕ) × (dir_fault file ≡ Some at) × (e ≡ Listed (Directory at)); Passes = dir_fault file ≡ None }

-- the first i lines of a list file are lines of the machine
abbrev pub AllLines : Rules → List ℕ → ℕ → Type 0
AllLines u file i = (j : ℕ) → j < i → IsLine u (line_of file j)

-- every line of a list file is one; else the lowest that is not is told
abbrev pub right_lines : Rules → List ℕ → Check
right_lines u file =
    record {
      Fails = λ e. (i : ℕ) × (f : LineFault) × (i < two file 0) × AllLines u file i × LineAnswer u (line_of file i) (Some f) × (e ≡ Listed (Wrong i f));
      Passes = AllLines u file (two file 0);
    }

-- the bytes are a line
abbrev pub right_line : Rules → List ℕ → Check
right_line u l = record { Fails = λ e. (f : LineFault) × LineAnswer u l (Some f) × (e ≡ OneLine f); Passes = IsLine u l }

-- one of n lines has the number
abbrev pub has_line : ℕ → ℕ → Check
has_line n number = record { Fails = λ e. (n ≤ number) × (e ≡ NoLine number); Passes = number < n }

-- every row is storable; else the lowest that is not is told
abbrev pub all_stored : Rules → List (List ℕ) → Check
all_stored u ls =
    record { Fails = λ e. (i : ℕ) × Lowest (Line ls (Unstored u)) i × (e ≡ Unstorable i); Passes = AllStorable u ls }

-- the numbered row is storable
abbrev pub row_stored : Rules → List ℕ → ℕ → Check
row_stored u a number = record { Fails = λ e. Unstored u a × (e ≡ Unstorable number); Passes = u.Storable a }

-- no line is below a start; else the lowest that is is told
abbrev pub no_start : Kind → Rules → List (List ℕ) → Check
no_start k u ls =
    record { Fails = λ e. (i : ℕ) × Lowest (AtStart k u ls) i × (e ≡ StartInside i); Passes = Never (AtStart k u ls) }

-- the places for lines: 1,024, or what memory holds if fewer
abbrev pub places : ℕ → ℕ → ℕ
places w memory = min 1024 (memory / w)

-- there are places for so many lines more than the n that stand
abbrev pub has_room : ℕ → ℕ → ℕ → ℕ → Check
has_room w memory n more = record { Fails = λ e. (places w memory < n + more) × (e ≡ Full n); Passes = n + more ≤ places w memory }

-- if something is missing, then something storable is
abbrev pub growable : Kind → Rules → List (List ℕ) → Check
growable k u ls =
    record {
      Fails = λ e. ((c : Config) × Missing k u ls c) × NoneStorable k u ls × (e ≡ NothingStorable (length ls));
      Passes = NothingMissing k u ls ⊎ ((r : List ℕ) × u.Storable r × Missing k u ls (k.config r));
    }

-- whether a call is turned down for want of bytes
abbrev pub is_short : {A : Type 0} → Result A FolderFault → Bool
is_short (Ok x) = false
is_short (Err (Short bytes)) = true
is_short (Err (Listed f)) = false
is_short (Err (OneLine f)) = false
is_short (Err (NoLine i)) = false
is_short (Err (Unstorable i)) = false
is_short (Err (StartInside i)) = false
is_short (Err (Full n)) = false
is_short (Err (NothingStorable n)) = false

-- the work strip after a call with such an answer: as it was for want of bytes, else all zero
abbrev pub wiped : {A : Type 0} → Result A FolderFault → List ℕ → List ℕ
wiped r strip = cond (is_short r) strip (zeros (length strip))

-- a place that is lent to a call stays as it was where the call is turned down
abbrev pub KeptIfRefused : {A : Type 0} → Result A FolderFault → List ℕ → List ℕ → Type 0
KeptIfRefused (Ok x) place place' = Unit {0}
KeptIfRefused (Err e) place place' = place' ≡ place
