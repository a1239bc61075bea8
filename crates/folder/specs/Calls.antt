-- The calls of a folder. Each is a relation between the rows that stand before, its own data, the lengths lent, its answer and the
-- rows that stand after; and each says what the lent bytes hold after.
use Rattle.std.specs.Prelude.{◌≡◌, ℕ, ◌+◌, ◌*◌, Bool, true, false, List, [], ◌∷◌, ◌++◌, length, drop, Ok, Err, Result, slice_index_or}
use Rattle.std.specs.List.{remove, AllZip}
use Rattle.files.specs.Bytes.{two}
use Rattle.files.specs.Directory.{lines_of}
use Rattle.machines.specs.Kind.{Kind, Rules}
use Rattle.rows.specs.Checks.{Answered, Check, ◌before◌, all_stored, growable, has_line, has_room, holds_rows, long_enough, no_start, right_directory, right_line, right_lines, row_stored}
use Rattle.rows.specs.Cover.{NothingMissing}
use Rattle.rows.specs.Listing.{RowOf, file_of}
use Rattle.rows.specs.Standing.{zeros}
use Rattle.rows.specs.declared.fault.FolderFault.{FolderFault}
use Rattle.growth.specs.Growth.{Minimal}
use Rattle.listing.specs.Listing.{Written, list_checks}
use Rattle.judge.specs.Verdicts.{Judged, judge_checks}
use Rattle.judge.specs.declared.verdict.Verdict.{Verdict}

-- a call on rows ls that leaves the rows ls': it does what Does says, or is turned down and leaves them as they were
abbrev pub Logged : {A : Type 0} → Check → (A → List (List ℕ) → Type 0) → List (List ℕ) → Result A FolderFault → List (List ℕ) → Type 0
Logged c Does ls (Ok x) ls' = c.Passes × Does x ls'
Logged c Does ls (Err e) ls' = c.Fails e × (ls' ≡ ls)

-- enter: the line's row comes to stand at the end
abbrev pub enter_checks : Kind → Rules → ℕ → List ℕ → List (List ℕ) → Check
enter_checks k u memory line ls =
    holds_rows k.width (length ls) memory before right_line u line before has_room k.width memory (length ls) 1

abbrev pub Entered : Kind → Rules → ℕ → List ℕ → List (List ℕ) → Result Unit FolderFault → List (List ℕ) → Type 0
Entered k u memory line ls =
    Logged (enter_checks k u memory line ls) (λ _ ls'. (row : List ℕ) × RowOf u line row × (ls' ≡ ls ++ row ∷ [])) ls

-- take in: the rows of a list file's lines come to stand at the end, in order
abbrev pub take_in_checks : Kind → Rules → ℕ → List ℕ → List (List ℕ) → Check
take_in_checks k u memory file ls =
    holds_rows k.width (length ls) memory before right_directory file before right_lines u file before has_room k.width memory (length ls) (two file 0)

abbrev pub TakenIn : Kind → Rules → ℕ → List ℕ → List (List ℕ) → Result Unit FolderFault → List (List ℕ) → Type 0
TakenIn k u memory file ls =
    Logged (take_in_checks k u memory file ls) (λ _ ls'. (rows : List (List ℕ)) × AllZip (RowOf u) (lines_of file) rows × (ls' ≡ ls ++ rows)) ls

-- a file that is taken in where nothing stood is the list file of the rows that stand then
abbrev pub Rewrites : Rules → List ℕ → List (List ℕ) → Result Unit FolderFault → List (List ℕ) → Type 0
Rewrites u file ls (Ok x) ls' = ls ≡ [] → file_of u ls' ≡ file
Rewrites u file ls (Err e) ls' = Unit {0}

-- strike: the numbered row goes
abbrev pub Struck : ℕ → ℕ → ℕ → List (List ℕ) → Result Unit FolderFault → List (List ℕ) → Type 0
Struck w memory number ls =
    Logged (holds_rows w (length ls) memory before has_line (length ls) number) (λ _ ls'. ls' ≡ remove ls number) ls

-- grow: a minimal storable missing row comes to stand at the end, or nothing is missing
abbrev pub grow_checks : Kind → Rules → ℕ → ℕ → List (List ℕ) → Check
grow_checks k u memory strip ls =
    holds_rows k.width (length ls) memory before long_enough k.width strip before all_stored u ls before no_start k u ls
    before has_room k.width memory (length ls) 1 before growable k u ls

abbrev pub GrownBy : Kind → Rules → List (List ℕ) → Bool → List (List ℕ) → Type 0
GrownBy k u ls true ls' = (row : List ℕ) × Minimal k u ls row × (ls' ≡ ls ++ row ∷ [])
GrownBy k u ls false ls' = NothingMissing k u ls × (ls' ≡ ls)

abbrev pub Grown : Kind → Rules → ℕ → ℕ → List (List ℕ) → Result Bool FolderFault → List (List ℕ) → Type 0
Grown k u memory strip ls = Logged (grow_checks k u memory strip ls) (GrownBy k u ls) ls

-- judge: the verdict on the rows
abbrev pub Ruled : Kind → Rules → ℕ → ℕ → ℕ → List (List ℕ) → Result Verdict FolderFault → Type 0
Ruled k u memory strip witness ls = Answered (holds_rows k.width (length ls) memory before judge_checks k u ls strip witness) (Judged k u ls)

-- show: the numbered row stands at the front of the place
abbrev pub show_checks : Kind → Rules → ℕ → ℕ → ℕ → List (List ℕ) → Check
show_checks k u memory number place ls =
    holds_rows k.width (length ls) memory before long_enough k.width place before has_line (length ls) number
    before row_stored u (slice_index_or ls number []) number

abbrev pub Showed : Kind → Rules → ℕ → ℕ → List (List ℕ) → List ℕ → List ℕ → Result Unit FolderFault → Type 0
Showed k u memory number ls place place' (Ok x) =
    (show_checks k u memory number (length place) ls).Passes × (place' ≡ slice_index_or ls number [] ++ drop k.width place)
Showed k u memory number ls place place' (Err e) = (show_checks k u memory number (length place) ls).Fails e × (place' ≡ place)

-- write out: the list file of the rows stands at the front of the place; the answer is its length
abbrev pub WrittenOut : Kind → Rules → ℕ → List (List ℕ) → List ℕ → List ℕ → Result ℕ FolderFault → Type 0
WrittenOut k u memory ls place place' = Answered (holds_rows k.width (length ls) memory before list_checks u ls (length place)) (Written u ls place place')

-- what a take in of the list file of ls into an empty folder comes to, with so many bytes of memory: the same rows, or too little room
abbrev pub TakenAgain : Kind → List (List ℕ) → ℕ → Result Unit FolderFault → List (List ℕ) → Type 0
TakenAgain k ls memory (Ok x) ls' = ls' ≡ ls
TakenAgain k ls memory (Err e) ls' = (has_room k.width memory 0 (length ls)).Fails e

-- a file that was written out is taken in again
abbrev pub Retaken : Kind → Rules → List (List ℕ) → Result ℕ FolderFault → Type 0
Retaken k u ls (Ok size) =
    (memory : ℕ) (r : Result Unit FolderFault) (ls' : List (List ℕ)) → TakenIn k u memory (file_of u ls) [] r ls' → TakenAgain k ls memory r ls'
Retaken k u ls (Err e) = Unit {0}

-- memory m of a folder that has n' lines after a call that added: behind the rows it is as it was, and where the call is turned down
-- all of it is
abbrev pub KeptBehind : {A : Type 0} → ℕ → ℕ → List ℕ → List ℕ → Result A FolderFault → Type 0
KeptBehind w n' m m' (Ok x) = drop (n' * w) m' ≡ drop (n' * w) m
KeptBehind w n' m m' (Err e) = m' ≡ m

-- after a strike that left n' lines: the bytes of the row that was the last are zero, and behind them memory is as it was
abbrev pub ClosedUp : ℕ → ℕ → List ℕ → List ℕ → Result Unit FolderFault → Type 0
ClosedUp w n' m m' (Ok x) = drop (n' * w) m' ≡ zeros w ++ drop ((n' + 1) * w) m
ClosedUp w n' m m' (Err e) = m' ≡ m
