-- The worked examples: each test is run on the rows.
use Rattle.std.proofs.Common.{◌≡◌, ℕ, true, List, [], ◌∷◌, ◌++◌, get_or, take, Some, refl, arith, lit<}
use Rattle.std.specs.List.{slice_get, remove}
use Rattle.files.proofs.Invariant.{between_from, drawn_from, every_at, fitting_from}
use Rattle.files.specs.Pattern.{fits}
use Rattle.files.specs.Pieces.{every}
use Rattle.files.specs.Sizes.{one_to}
use Rattle.files.specs.Transition.{is_drawn}
use Rattle.fronts.proofs.Systems.{Known}
use Rattle.load_buffers.specs.Backs.{back_of}
use Rattle.load_buffers.specs.LoadRules.{load_rules}
use Rattle.load_buffers.specs.Reading.{spread, walk}
use Rattle.load_buffers.specs.StepRows.{StepRow, dropped, put_in, rows_from, step_rows, undone}
use Rattle.rows.specs.Cover.{AllStorable}
use Rattle.worked.proofs.Checks.{all_stored, bad_rows_covered, first_start_lem, lowest_leak_lem, lower_rows_covered, safe, step_rows_covered}
use Rattle.worked.specs.Examples.{one_reader, start_line, start_row, twelve, twelve_rows, TwelveSafe, WithoutEight, WithStart}

known : Known one_reader
known =
    record {
      processes = between_from 4 1 refl;
      variables = between_from 4 1 refl;
      values = between_from 4 2 refl;
      states = λ p n h. between_from 16 n (every_at (one_to 16) one_reader.states p n h refl);
      transitions = omega arith;
      patterns = omega arith;
      drawn = λ i t h. drawn_from one_reader t (every_at (is_drawn one_reader.states 1 2) one_reader.transitions i t h refl);
      fitting = λ i p h. fitting_from one_reader p (omega arith) (every_at (fits one_reader.states) one_reader.patterns i p h refl);
    }

-- the twelve lines
twelve_stored : AllStorable (load_rules one_reader) twelve_rows
unfolding spread walk
twelve_stored = all_stored one_reader refl twelve twelve_rows refl refl

twelve_bad : bad_rows_covered one_reader twelve_rows (load_rules one_reader).bad_count ≡ true
twelve_bad = refl

twelve_steps : every (step_rows_covered one_reader twelve_rows) twelve_rows ≡ true
unfolding step_rows rows_from back_of undone put_in dropped
twelve_steps = refl

pub twelve_safe : TwelveSafe
twelve_safe = record { lined = refl; stored = twelve_stored; judged = safe known twelve_rows twelve_stored refl twelve_bad twelve_steps }

-- without line 8
abbrev eleven : List (List ℕ)
eleven = remove twelve_rows 8

-- its row is what leaks to line 2
abbrev leaking : StepRow
leaking = record { move = 80; row = get_or twelve_rows 8 [] }

eleven_stored : AllStorable (load_rules one_reader) eleven
unfolding spread walk
eleven_stored = all_stored one_reader refl (remove twelve 8) eleven refl refl

eleven_bad : bad_rows_covered one_reader eleven (load_rules one_reader).bad_count ≡ true
eleven_bad = refl

eleven_leaks : slice_get (step_rows one_reader (get_or eleven 2 [])) 0 ≡ Some leaking
unfolding step_rows rows_from back_of undone put_in dropped
eleven_leaks = refl

eleven_before : every (step_rows_covered one_reader eleven) (take 2 eleven) ≡ true
unfolding step_rows rows_from back_of undone put_in dropped
eleven_before = refl

eleven_lower : lower_rows_covered one_reader eleven 80 (get_or eleven 2 []) ≡ true
unfolding step_rows rows_from back_of undone put_in dropped
eleven_lower = refl

pub without_eight : WithoutEight
without_eight =
    record {
      lined = refl;
      stored = eleven_stored;
      judged = lowest_leak_lem known eleven eleven_stored 2 (lit< tt) 0 leaking eleven_leaks refl refl eleven_bad eleven_before eleven_lower;
    }

-- with the start behind them
abbrev thirteen : List (List ℕ)
thirteen = twelve_rows ++ start_row ∷ []

thirteen_stored : AllStorable (load_rules one_reader) thirteen
unfolding spread walk
thirteen_stored = all_stored one_reader refl (twelve ++ start_line ∷ []) thirteen refl refl

pub with_start : WithStart
with_start = record { lined = refl; stored = thirteen_stored; judged = first_start_lem one_reader thirteen 12 (lit< tt) refl refl }
