-- The ledger: the rows that stand, fed by each call's line, file or number, the lengths lent with it, and the row that grow adds.
-- Beside the rows it says what strip and witness hold.
use Rattle.std.specs.Prelude.{◌≡◌, ℕ, min, Bool, List, [], ◌∷◌, ◌++◌, length, take, drop, Result}
use Rattle.machines.specs.Kind.{Kind, Rules}
use Rattle.rows.specs.Checks.{wiped}
use Rattle.rows.specs.declared.fault.FolderFault.{FolderFault}
use Rattle.judge.specs.Verdicts.{SafeHolds, WitnessLeft}
use Rattle.judge.specs.declared.verdict.Verdict.{Verdict}
use Rattle.folder.specs.Calls.{Entered, Grown, Ruled, Struck, TakenIn}
use Rattle.ledger.specs.declared.call.Answer.{Answer}
use Rattle.ledger.specs.declared.call.Answer.TheVariants.{Changed, Grew, Ruled as Ruling}
use Rattle.ledger.specs.declared.call.Call.{Call}
use Rattle.ledger.specs.declared.call.Deed.{Deed}
use Rattle.ledger.specs.declared.call.Deed.TheVariants.{Enter, TakeIn, Strike, Grow, Judge}

pub record State : Type 0 where
  pub rows : List (List ℕ)
  pub strip : List ℕ
  pub witness : List ℕ

abbrev pub state : List (List ℕ) → List ℕ → List ℕ → State
state ls s t = record { rows = ls; strip = s; witness = t }

-- the first n bytes, or all if there are fewer
abbrev pub lent : ℕ → List ℕ → List ℕ
lent n bytes = take (min n (length bytes)) bytes

-- all bytes, once the lent ones hold part
abbrev pub returned : ℕ → List ℕ → List ℕ → List ℕ
returned n bytes part = part ++ drop (min n (length bytes)) bytes

-- only the rows may differ
abbrev pub RowsChange : (List (List ℕ) → List (List ℕ) → Type 0) → State → State → Type 0
RowsChange R b b' = R b.rows b'.rows × (b'.strip ≡ b.strip) × (b'.witness ≡ b.witness)

-- grow may change the rows, and wipes the bytes of the strip that are lent to it
abbrev pub Grows : Kind → Rules → ℕ → ℕ → Result Bool FolderFault → State → State → Type 0
Grows k u memory n r b b' =
    Grown k u memory (min n (length b.strip)) b.rows r b'.rows × (b'.strip ≡ returned n b.strip (wiped r (lent n b.strip))) × (b'.witness ≡ b.witness)

-- judge leaves the rows, wipes the strip and shows a witness; safe means that no run does harm
abbrev pub Rules-on : Kind → Rules → ℕ → ℕ → ℕ → Result Verdict FolderFault → State → State → Type 0
Rules-on k u memory n o r b b' =
    Ruled k u memory (min n (length b.strip)) (min o (length b.witness)) b.rows r × SafeHolds u r × (b'.rows ≡ b.rows)
    × (b'.strip ≡ returned n b.strip (wiped r (lent n b.strip)))
    × ((part : List ℕ) × WitnessLeft k u b.rows r (lent o b.witness) part × (b'.witness ≡ returned o b.witness part))

-- a call with so many bytes of memory, strip and witness lent to it
abbrev pub Does : Kind → Rules → ℕ → ℕ → ℕ → Deed → Answer → State → State → Type 0
Does k u m n o (Enter line) (Changed r) = RowsChange (λ ls ls'. Entered k u m line.now ls r ls')
Does k u m n o (TakeIn file) (Changed r) = RowsChange (λ ls ls'. TakenIn k u m file.now ls r ls')
Does k u m n o (Strike number) (Changed r) = RowsChange (λ ls ls'. Struck k.width m number ls r ls')
Does k u m n o Grow (Grew r) = Grows k u m n r
Does k u m n o Judge (Ruling r) = Rules-on k u m n o r
Does k u m n o (Enter line) (Grew r) = λ _ _. ⊥
Does k u m n o (Enter line) (Ruling r) = λ _ _. ⊥
Does k u m n o (TakeIn file) (Grew r) = λ _ _. ⊥
Does k u m n o (TakeIn file) (Ruling r) = λ _ _. ⊥
Does k u m n o (Strike number) (Grew r) = λ _ _. ⊥
Does k u m n o (Strike number) (Ruling r) = λ _ _. ⊥
Does k u m n o Grow (Changed r) = λ _ _. ⊥
Does k u m n o Grow (Ruling r) = λ _ _. ⊥
Does k u m n o Judge (Changed r) = λ _ _. ⊥
Does k u m n o Judge (Grew r) = λ _ _. ⊥

-- one call, where there are m bytes of memory
abbrev pub Called : Kind → Rules → ℕ → Call → Answer → State → State → Type 0
Called k u m c = Does k u (min c.memory m) c.strip c.witness c.deed

-- a list of calls, and an answer to each
abbrev pub Played : Kind → Rules → ℕ → State → List Call → List Answer → State → Type 0
Played k u m b [] [] b' = b' ≡ b
Played k u m b (c ∷ cs) (a ∷ as') b'' = (b' : State) × Called k u m c a b b' × Played k u m b' cs as' b''
Played k u m b [] (a ∷ as') b' = ⊥
Played k u m b (c ∷ cs) [] b' = ⊥
