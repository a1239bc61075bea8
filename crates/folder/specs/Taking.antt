-- How a list file's lines are read, one after another.
use Rattle.std.specs.Prelude.{◌≡◌, ℕ, ◌+◌, ◌*◌, ◌<◌, List, ◌++◌, drop, Some, None, Option}
use Rattle.std.specs.List.{AllZip}
use Rattle.files.specs.Directory.{line_of, lines_from}
use Rattle.files.specs.declared.list_fault.ListFault.{ListFault}
use Rattle.files.specs.declared.list_fault.ListFault.TheVariants.{Directory, Line as Wrong}
use Rattle.machines.specs.Kind.{Kind, Rules, IsLine, LineAnswer}
use Rattle.rows.specs.Checks.{AllLines}
use Rattle.rows.specs.Standing.{standing}
use Rattle.rows.specs.Listing.{RowOf}

-- of a line that is there: it is not wrong, or where it is
abbrev pub FaultAt : Rules → List ℕ → ℕ → Option ListFault → Type 0
FaultAt u file i None = IsLine u (line_of file i)
FaultAt u file i (Some (Directory at)) = ⊥
FaultAt u file i (Some (Wrong j f)) = (j ≡ i) × LineAnswer u (line_of file i) (Some f)

-- of a right file with n lines: no line is wrong, or the first that is
abbrev pub FirstFault : Rules → List ℕ → ℕ → Option ListFault → Type 0
FirstFault u file n None = AllLines u file n
FirstFault u file n (Some (Directory at)) = ⊥
FirstFault u file n (Some (Wrong i f)) = (i < n) × AllLines u file i × LineAnswer u (line_of file i) (Some f)

-- n lines stood in memory m, and the first i lines of a file stand behind them in m', each as the one row that is its own; what lies
-- behind those is as it was
abbrev pub LinesAdded : Kind → Rules → List ℕ → ℕ → ℕ → List ℕ → List ℕ → Type 0
LinesAdded k u file n i m m' =
    (rows : List (List ℕ)) × AllZip (RowOf u) (lines_from i 0 file) rows × (standing k.width (n + i) m' ≡ standing k.width n m ++ rows)
    × (drop ((n + i) * k.width) m' ≡ drop ((n + i) * k.width) m)
