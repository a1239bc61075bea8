-- What the writing of rows as a list file answers.
use Rattle.std.specs.Prelude.{◌≡◌, ℕ, List, ◌++◌, map, length, drop, None, Ok, Err, Result}
use Rattle.files.specs.Directory.{dir_fault, lines_of}
use Rattle.machines.specs.Kind.{Rules}
use Rattle.rows.specs.declared.fault.FolderFault.{FolderFault}
use Rattle.rows.specs.Checks.{Check, ◌before◌, all_stored, long_enough}
use Rattle.rows.specs.Listing.{file_of}

-- the checks before anything is written: the rows, and the bytes of the place
abbrev pub list_checks : Rules → List (List ℕ) → ℕ → Check
list_checks u ls place = all_stored u ls before long_enough (length (file_of u ls)) place

-- the file's length; the place before, and after with the file at its front
abbrev pub Written : Rules → List (List ℕ) → List ℕ → List ℕ → ℕ → Type 0
Written u ls place place' size = (size ≡ length (file_of u ls)) × (place' ≡ file_of u ls ++ drop size place)

-- the file that is written is a right one, and its lines are those of the rows
abbrev pub ReadsBack : {A : Type 0} → Rules → List (List ℕ) → Result A FolderFault → Type 0
ReadsBack u ls (Ok x) = (dir_fault (file_of u ls) ≡ None) × (lines_of (file_of u ls) ≡ map u.line_of ls)
ReadsBack u ls (Err e) = Unit {0}
