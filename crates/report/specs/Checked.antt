-- What a check of two files comes to.
use Rattle.std.specs.Prelude.{◌≡◌, ℕ, ◌<◌, List, [], length, Some, None, Ok, Err, Result, slice_index_or}
use Rattle.files.specs.Bytes.{two}
use Rattle.files.specs.Directory.{dir_fault, line_of}
use Rattle.files.specs.ListFault.{list_numbers}
use Rattle.files.specs.Program.{Program, sizes_of}
use Rattle.files.specs.ReadSystem.{system_fault, program_of}
use Rattle.files.specs.SystemFault.{system_numbers}
use Rattle.files.specs.declared.list_fault.ListFault.{ListFault}
use Rattle.files.specs.declared.list_fault.ListFault.TheVariants.{Directory, Line}
use Rattle.files.specs.declared.refusal.Refusal.{Refusal}
use Rattle.files.specs.declared.sizes.Sizes.{Sizes}
use Rattle.files.specs.declared.system_fault.SystemFault.{SystemFault}
use Rattle.machines.specs.Kind.{LineAnswer}
use Rattle.machines.specs.Matched.{StoreSafe}
use Rattle.load_buffers.specs.Configs.{load_kind}
use Rattle.load_buffers.specs.LoadRules.{load_rules}
use Rattle.rows.specs.Checks.{AllLines}
use Rattle.judge.specs.Verdicts.{Judged as Verdicts}
use Rattle.judge.specs.declared.verdict.Verdict.{Verdict}
use Rattle.judge.specs.declared.verdict.Verdict.TheVariants.{Safe, Start, Bad, Leak}
use Rattle.report.specs.declared.outcome.Outcome.{Outcome}
use Rattle.report.specs.declared.outcome.Outcome.TheVariants.{NoSystem, NoList, Judged}

-- a right system file, and its sizes
abbrev pub Sized : List ℕ → Sizes → Type 0
Sized system z = (system_fault system ≡ None) × (z ≡ sizes_of (program_of system))

-- the fault of a list file: the directory's, or that of the first wrong line of a right directory
abbrev pub ListWrong : Program → List ℕ → ListFault → Type 0
ListWrong s list (Directory at) = dir_fault list ≡ Some at
ListWrong s list (Line i f) =
    (dir_fault list ≡ None) × (i < two list 0) × AllLines (load_rules s) list i × LineAnswer (load_rules s) (line_of list i) (Some f)

-- the verdict is the judge's on the rows of the file's lines
abbrev pub JudgedBy : Program → List ℕ → Verdict → Type 0
JudgedBy s list v =
    (rows : List (List ℕ)) × (length rows ≡ two list 0)
    × ((i : ℕ) → i < two list 0 → (load_rules s).Storable (slice_index_or rows i []) × (line_of list i ≡ (load_rules s).line_of (slice_index_or rows i [])))
    × Verdicts (load_kind s) (load_rules s) rows v

-- safe means that no store-buffer run from the start, with any number of stores pending, reaches a bad state
abbrev pub SafeMeans : Program → Verdict → Type 0
SafeMeans s Safe = StoreSafe s
SafeMeans s (Start i) = Unit {0}
SafeMeans s Bad = Unit {0}
SafeMeans s (Leak i k) = Unit {0}

-- the count of lines and the verdict, or the refusal of the list
abbrev pub ListJudged : Program → List ℕ → Result (ℕ × Verdict) Refusal → Type 0
ListJudged s list (Ok (n, v)) = (dir_fault list ≡ None) × (n ≡ two list 0) × JudgedBy s list v × SafeMeans s v
ListJudged s list (Err r) = (f : ListFault) × ListWrong s list f × (r ≡ list_numbers f)

abbrev pub Checked : List ℕ → List ℕ → Outcome → Type 0
Checked system list (NoSystem r) = (f : SystemFault) × (system_fault system ≡ Some f) × (r ≡ system_numbers f)
Checked system list (NoList z r) = Sized system z × ListJudged (program_of system) list (Err r)
Checked system list (Judged z n v) = Sized system z × ListJudged (program_of system) list (Ok (n, v))
