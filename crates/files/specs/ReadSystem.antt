-- What the reader of system files answers.
use Rattle.std.specs.Prelude.{◌≡◌, ℕ, ◌/◌, List, length, drop, Some, None, Ok, Err, Option, Result, slice_index}
use Rattle.std.specs.Option.{option_map, option_or}
use Rattle.files.specs.Bytes.{two}
use Rattle.files.specs.Pattern.{pattern_of}
use Rattle.files.specs.Pieces.{decoded, section_fault}
use Rattle.files.specs.Program.{Program, program}
use Rattle.files.specs.Sections.{pairs_fault, section}
use Rattle.files.specs.Sizes.{sizes_fault}
use Rattle.files.specs.Transition.{transition_of}
use Rattle.files.specs.declared.system.System.{System}
use Rattle.files.specs.declared.system_fault.SystemFault.{SystemFault}
use Rattle.files.specs.declared.system_fault.SystemFault.TheVariants.{Sections, Size, Transition, Pattern, Memory}

-- the state counts, one a process
abbrev pub states_in : List ℕ → List ℕ
states_in bs = drop 3 (section 0 bs)

abbrev pub variables_in : List ℕ → ℕ
variables_in bs = slice_index (section 0 bs) 1

abbrev pub values_in : List ℕ → ℕ
values_in bs = slice_index (section 0 bs) 2

-- seven bytes a transition, at most 64 transitions
abbrev pub transitions_fault : List ℕ → Option ℕ
transitions_fault bs =
    section_fault (transition_of (states_in bs) (variables_in bs) (values_in bs)) 7 64 (two bs 4) (section 1 bs)

-- one byte a process in each pattern, so as many as there are state counts; at most 16 patterns
abbrev pub patterns_fault : List ℕ → Option ℕ
patterns_fault bs = section_fault (pattern_of (states_in bs)) (length (states_in bs)) 16 (two bs 8) (section 2 bs)

-- the first fault of a file
abbrev pub system_fault : List ℕ → Option SystemFault
system_fault bs =
    option_or (option_map Sections (pairs_fault bs))
    (option_or (option_map Size (sizes_fault (section 0 bs)))
    (option_or (option_map Transition (transitions_fault bs)) (option_map Pattern (patterns_fault bs))))

-- what a right file says
abbrev pub program_of : List ℕ → Program
program_of bs =
    record {
      states = states_in bs;
      variables = variables_in bs;
      values = values_in bs;
      transitions = decoded (transition_of (states_in bs) (variables_in bs) (values_in bs)) 7 (length (section 1 bs) / 7) (section 1 bs);
      patterns = decoded (pattern_of (states_in bs)) (length (states_in bs)) (length (section 2 bs) / length (states_in bs)) (section 2 bs);
    }

-- a right file is taken unless memory is wanting, and any other is refused for its first fault
abbrev pub Taken : List ℕ → Result System SystemFault → Type 0
Taken bs (Ok s) = (system_fault bs ≡ None) × (program s ≡ program_of bs)
Taken bs (Err (Sections at)) = system_fault bs ≡ Some (Sections at)
Taken bs (Err (Size at)) = system_fault bs ≡ Some (Size at)
Taken bs (Err (Transition at)) = system_fault bs ≡ Some (Transition at)
Taken bs (Err (Pattern at)) = system_fault bs ≡ Some (Pattern at)
Taken bs (Err Memory) = system_fault bs ≡ None
