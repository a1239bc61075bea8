-- Worked examples of the judge: lines of a small program, and the verdict on them.
use Rattle.std.specs.Prelude.{◌≡◌, ℕ, List, [], ◌∷◌, ◌++◌, map, Some, None}
use Rattle.std.specs.List.{remove}
use Rattle.files.specs.Program.{Program}
use Rattle.files.specs.declared.transition.Operation.TheVariants.{Read}
use Rattle.load_buffers.specs.Configs.{load_kind}
use Rattle.load_buffers.specs.LoadRules.{load_rules}
use Rattle.rows.specs.Cover.{AllStorable}
use Rattle.judge.specs.Verdicts.{Judged}
use Rattle.judge.specs.declared.verdict.Verdict.{Verdict}
use Rattle.judge.specs.declared.verdict.Verdict.TheVariants.{Safe, Start, Leak}

-- one process, which waits to read 1 from a variable that nothing writes; to have read it is bad
abbrev pub one_reader : Program
one_reader =
    record {
      states = 2 ∷ [];
      variables = 1;
      values = 2;
      transitions = record { process = 0; before = 0; operation = Read 0 1; after = 1 } ∷ [];
      patterns = record { states = Some 1 ∷ None ∷ None ∷ None ∷ [] } ∷ [];
    }

-- lines of it: the state, the value in memory, the count of messages, and the messages; 0 and 1 are seen messages, 0x10 and 0x11 own ones
abbrev pub twelve : List (List ℕ)
twelve =
    (1 ∷ 0 ∷ 0 ∷ [])
    ∷ (1 ∷ 1 ∷ 0 ∷ [])
    ∷ (0 ∷ 0 ∷ 1 ∷ 1 ∷ [])
    ∷ (1 ∷ 0 ∷ 1 ∷ 0x10 ∷ [])
    ∷ (1 ∷ 0 ∷ 1 ∷ 0x11 ∷ [])
    ∷ (1 ∷ 1 ∷ 1 ∷ 0x10 ∷ [])
    ∷ (1 ∷ 1 ∷ 1 ∷ 0x11 ∷ [])
    ∷ (0 ∷ 1 ∷ 0 ∷ [])
    ∷ (0 ∷ 0 ∷ 2 ∷ 0x10 ∷ 1 ∷ [])
    ∷ (0 ∷ 0 ∷ 1 ∷ 0x11 ∷ [])
    ∷ (0 ∷ 1 ∷ 1 ∷ 0x10 ∷ [])
    ∷ (0 ∷ 1 ∷ 1 ∷ 0x11 ∷ [])
    ∷ []

-- their rows, of twelve bytes each: there are nine places for messages, and 0 in those that are not used
abbrev pub twelve_rows : List (List ℕ)
twelve_rows =
    (1 ∷ 0 ∷ 0 ∷ 0 ∷ 0 ∷ 0 ∷ 0 ∷ 0 ∷ 0 ∷ 0 ∷ 0 ∷ 0 ∷ [])
    ∷ (1 ∷ 1 ∷ 0 ∷ 0 ∷ 0 ∷ 0 ∷ 0 ∷ 0 ∷ 0 ∷ 0 ∷ 0 ∷ 0 ∷ [])
    ∷ (0 ∷ 0 ∷ 1 ∷ 1 ∷ 0 ∷ 0 ∷ 0 ∷ 0 ∷ 0 ∷ 0 ∷ 0 ∷ 0 ∷ [])
    ∷ (1 ∷ 0 ∷ 1 ∷ 0x10 ∷ 0 ∷ 0 ∷ 0 ∷ 0 ∷ 0 ∷ 0 ∷ 0 ∷ 0 ∷ [])
    ∷ (1 ∷ 0 ∷ 1 ∷ 0x11 ∷ 0 ∷ 0 ∷ 0 ∷ 0 ∷ 0 ∷ 0 ∷ 0 ∷ 0 ∷ [])
    ∷ (1 ∷ 1 ∷ 1 ∷ 0x10 ∷ 0 ∷ 0 ∷ 0 ∷ 0 ∷ 0 ∷ 0 ∷ 0 ∷ 0 ∷ [])
    ∷ (1 ∷ 1 ∷ 1 ∷ 0x11 ∷ 0 ∷ 0 ∷ 0 ∷ 0 ∷ 0 ∷ 0 ∷ 0 ∷ 0 ∷ [])
    ∷ (0 ∷ 1 ∷ 0 ∷ 0 ∷ 0 ∷ 0 ∷ 0 ∷ 0 ∷ 0 ∷ 0 ∷ 0 ∷ 0 ∷ [])
    ∷ (0 ∷ 0 ∷ 2 ∷ 0x10 ∷ 1 ∷ 0 ∷ 0 ∷ 0 ∷ 0 ∷ 0 ∷ 0 ∷ 0 ∷ [])
    ∷ (0 ∷ 0 ∷ 1 ∷ 0x11 ∷ 0 ∷ 0 ∷ 0 ∷ 0 ∷ 0 ∷ 0 ∷ 0 ∷ 0 ∷ [])
    ∷ (0 ∷ 1 ∷ 1 ∷ 0x10 ∷ 0 ∷ 0 ∷ 0 ∷ 0 ∷ 0 ∷ 0 ∷ 0 ∷ 0 ∷ [])
    ∷ (0 ∷ 1 ∷ 1 ∷ 0x11 ∷ 0 ∷ 0 ∷ 0 ∷ 0 ∷ 0 ∷ 0 ∷ 0 ∷ 0 ∷ [])
    ∷ []

-- the line of the start, and its row
abbrev pub start_line : List ℕ
start_line = 0 ∷ 0 ∷ 0 ∷ []

abbrev pub start_row : List ℕ
start_row = 0 ∷ 0 ∷ 0 ∷ 0 ∷ 0 ∷ 0 ∷ 0 ∷ 0 ∷ 0 ∷ 0 ∷ 0 ∷ 0 ∷ []

-- the rows are those of the lines, and this is the verdict on them
pub record VerdictOn (lines rows : List (List ℕ)) (v : Verdict) : Type 0 where
  pub lined : map (load_rules one_reader).line_of rows ≡ lines
  pub stored : AllStorable (load_rules one_reader) rows
  pub judged : Judged (load_kind one_reader) (load_rules one_reader) rows v

-- the twelve lines show that no run reads the 1
abbrev pub TwelveSafe : Type 0
TwelveSafe = VerdictOn twelve twelve_rows Safe

-- without line 8, something uncovered steps by move 80, a delete by process 0, to above line 2, and nothing by a lower move or to a lower line
abbrev pub WithoutEight : Type 0
WithoutEight = VerdictOn (remove twelve 8) (remove twelve_rows 8) (Leak 2 80)

-- with the line of the start behind them, only that line, number 12, is below the start
abbrev pub WithStart : Type 0
WithStart = VerdictOn (twelve ++ start_line ∷ []) (twelve_rows ++ start_row ∷ []) (Start 12)
