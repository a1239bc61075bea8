-- What take in and judge answer, case by case, and what they leave in what was lent.
use Rattle.std.specs.Prelude.{◌≡◌, ℕ, ◌+◌, ◌-◌, ◌*◌, ◌<◌, ◌≤◌, ◌⊎◌, List, [], ◌++◌, length, drop, Some, None, Ok, Err, Result, slice_index_or}
use Rattle.files.specs.Bytes.{two}
use Rattle.files.specs.Directory.{dir_fault, line_of}
use Rattle.files.specs.declared.list_fault.ListFault.TheVariants.{Directory, Line as Wrong}
use Rattle.machines.specs.Kind.{Kind, Rules, LineAnswer}
use Rattle.rows.specs.Checks.{AllLines, places}
use Rattle.rows.specs.Cover.{AllStorable, Unstored}
use Rattle.rows.specs.Search.{Lowest, Line}
use Rattle.rows.specs.Standing.{standing, zeros}
use Rattle.rows.specs.declared.fault.FolderFault.{FolderFault}
use Rattle.rows.specs.declared.fault.FolderFault.TheVariants.{Short, List as Listed, Line as OneLine, NoLine, Unstorable, StartInside, Full, NothingStorable}
use Rattle.judge.specs.Verdicts.{Judged, Shown}
use Rattle.judge.specs.declared.verdict.Verdict.{Verdict}

-- memory for n rows of w bytes, a strip and a witness of one row each
abbrev pub Room : ℕ → ℕ → ℕ → ℕ → ℕ → Type 0
Room w n memory strip witness = (n * w ≤ memory) × (w ≤ strip) × (w ≤ witness)

-- the bytes needed, where there is no room: memory is looked at first
abbrev pub Needed : ℕ → ℕ → ℕ → ℕ → ℕ → ℕ → Type 0
Needed w n memory strip witness bytes =
    ((memory < n * w) × (bytes ≡ n * w)) ⊎ ((n * w ≤ memory) × ((strip < w) ⊎ (witness < w)) × (bytes ≡ w))

-- the whole witness place: the row that shows the verdict, then zeros
abbrev pub Witness : Kind → Rules → List (List ℕ) → Verdict → ℕ → List ℕ → Type 0
Witness k u ls v n t = (b : List ℕ) × ((length b ≡ k.width) × Shown k u ls v b × (t ≡ b ++ zeros (n - k.width)))

-- n lines stand in memory m; s and s' are the strip before and after, t and t' the witness
abbrev pub JudgeAnswer : Kind → Rules → ℕ → List ℕ → List ℕ → List ℕ → List ℕ → List ℕ → Result Verdict FolderFault → Type 0
JudgeAnswer k u n m s s' t t' (Ok v) =
    Room k.width n (length m) (length s) (length t) × AllStorable u (standing k.width n m) × Judged k u (standing k.width n m) v × (s' ≡ zeros (length s)) × Witness k u (standing k.width n m) v (length t) t'
JudgeAnswer k u n m s s' t t' (Err (Short b)) = Needed k.width n (length m) (length s) (length t) b × (s' ≡ s) × (t' ≡ t)
JudgeAnswer k u n m s s' t t' (Err (Unstorable i)) =
    Room k.width n (length m) (length s) (length t) × Lowest (Line (standing k.width n m) (Unstored u)) i × (s' ≡ zeros (length s)) × (t' ≡ zeros (length t))
JudgeAnswer k u n m s s' t t' (Err (Listed f)) = ⊥
JudgeAnswer k u n m s s' t t' (Err (Full i)) = ⊥
JudgeAnswer k u n m s s' t t' (Err (OneLine f)) = ⊥
JudgeAnswer k u n m s s' t t' (Err (NoLine i)) = ⊥
JudgeAnswer k u n m s s' t t' (Err (StartInside i)) = ⊥
JudgeAnswer k u n m s s' t t' (Err (NothingStorable i)) = ⊥

-- n lines stood in memory m, and the rows of the first i lines of a file stand behind them in m'; what lies behind those is as it was
abbrev pub Added : Kind → Rules → List ℕ → ℕ → ℕ → List ℕ → List ℕ → Type 0
Added k u file n i m m' =
    (rows : List (List ℕ)) × (length rows ≡ i) × ((j : ℕ) → j < i → u.Storable (slice_index_or rows j []) × (line_of file j ≡ u.line_of (slice_index_or rows j [])))
    × (standing k.width (n + i) m' ≡ standing k.width n m ++ rows) × (drop ((n + i) * k.width) m' ≡ drop ((n + i) * k.width) m)

-- the folder had n lines and has n', and m and m' are its memory before and after
abbrev pub TakeInAnswer : Kind → Rules → ℕ → ℕ → List ℕ → List ℕ → List ℕ → Result Unit FolderFault → Type 0
TakeInAnswer k u n n' m m' file (Ok x) =
    (n * k.width ≤ length m) × (dir_fault file ≡ None) × AllLines u file (two file 0) × (two file 0 ≤ places k.width (length m) - n) × (n' ≡ n + two file 0)
    × Added k u file n (two file 0) m m'
TakeInAnswer k u n n' m m' file (Err (Short b)) = (length m < n * k.width) × (b ≡ n * k.width) × (n' ≡ n) × (m' ≡ m)
TakeInAnswer k u n n' m m' file (Err (Listed (Directory at))) = (n * k.width ≤ length m) × (dir_fault file ≡ Some at) × (n' ≡ n) × (m' ≡ m)
TakeInAnswer k u n n' m m' file (Err (Listed (Wrong i f))) =
    (n * k.width ≤ length m) × (dir_fault file ≡ None) × (i < two file 0) × AllLines u file i × LineAnswer u (line_of file i) (Some f) × (n' ≡ n) × (m' ≡ m)
TakeInAnswer k u n n' m m' file (Err (Full i)) =
    (n * k.width ≤ length m) × (dir_fault file ≡ None) × AllLines u file (two file 0) × (places k.width (length m) - n < two file 0) × (i ≡ n) × (n' ≡ n) × (m' ≡ m)
TakeInAnswer k u n n' m m' file (Err (Unstorable i)) = ⊥
TakeInAnswer k u n n' m m' file (Err (OneLine f)) = ⊥
TakeInAnswer k u n n' m m' file (Err (NoLine i)) = ⊥
TakeInAnswer k u n n' m m' file (Err (StartInside i)) = ⊥
TakeInAnswer k u n n' m m' file (Err (NothingStorable i)) = ⊥
