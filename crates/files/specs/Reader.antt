-- What a reader of a list file answers.
use Rattle.std.specs.Prelude.{◌≡◌, ℕ, ◌+◌, ◌*◌, ◌<◌, ◌≤◌, true, List, length, is_some, is_ok, Some, None, Ok, Err, Option, Result}
use Rattle.files.specs.declared.list.Line.{Line as Handout}
use Rattle.files.specs.declared.list.ListReader.{ListReader}
use Rattle.files.specs.declared.list_fault.ListFault.{ListFault}
use Rattle.files.specs.declared.list_fault.ListFault.TheVariants.{Directory, Line}
use Rattle.files.specs.Bytes.{two}
use Rattle.files.specs.Directory.{dir_fault, line_of, lines_of}
use Rattle.files.specs.Writer.{list_file}

abbrev pub Opened : List ℕ → Result ListReader ListFault → Type 0
Opened bs (Ok q) = (dir_fault bs ≡ None) × (q.bytes.now ≡ bs) × (q.count ≡ two bs 0) × (q.count ≤ 1024)
Opened bs (Err (Directory place)) = dir_fault bs ≡ Some place
Opened bs (Err (Line number fault)) = ⊥

-- an opened file is the one that is written from its lines
abbrev pub Written : List ℕ → Result ListReader ListFault → Type 0
Written bs r = is_ok r ≡ true → bs ≡ list_file (lines_of bs)

-- each file that is written from at most 1,024 lines is opened, and has those lines
abbrev pub OpensEvery : List ℕ → Result ListReader ListFault → Type 0
OpensEvery bs r = (ls : List (List ℕ)) → bs ≡ list_file ls → length ls ≤ 1024 → (is_ok r ≡ true) × (lines_of bs ≡ ls)

-- the number is below the count, and the line's pair and the part that the pair names lie within the bytes
abbrev pub Within : List ℕ → ℕ → ℕ → Type 0
Within bs count number =
    (number < count) × (2 + 4 * number + 4 ≤ length bs) × (two bs (2 + 4 * number) + two bs (2 + 4 * number + 2) ≤ length bs)

abbrev pub Handed : List ℕ → ℕ → ℕ → Option Handout → Type 0
Handed bs count number None = Within bs count number → ⊥
Handed bs count number (Some l) =
    Within bs count number × (l.number ≡ number) × (l.place ≡ two bs (2 + 4 * number)) × (l.bytes.now ≡ line_of bs number)

-- over a right file each number below the count has its line
abbrev pub HandsEvery : List ℕ → ℕ → ℕ → Option Handout → Type 0
HandsEvery bs count number r = dir_fault bs ≡ None → count ≡ two bs 0 → number < count → is_some r ≡ true
