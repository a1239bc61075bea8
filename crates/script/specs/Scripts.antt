-- What a script does: its lines, one after another, until one is refused.
use Rattle.std.specs.Prelude.{◌≡◌, ℕ, ◌+◌, cond, List, [], ◌∷◌, ◌++◌, Some, None, Ok, Err, Option, Result, ◌==◌}
use Rattle.files.specs.Program.{Program}
use Rattle.queue.specs.Fifo.{Kind}
use Rattle.bench.specs.declared.fault.BenchFault.{BenchFault}
use Rattle.bench.specs.declared.fault.BenchFault.TheVariants.{Unreadable}
use Rattle.bench.specs.Play.{Outcome, played, drained, unready}
use Rattle.rules.specs.Rulebook.{Rulebook}
use Rattle.bench.specs.Table.{Table}
use Rattle.script.specs.Lines.{line_command}
use Rattle.script.specs.declared.command.Command.{Command}
use Rattle.script.specs.declared.command.Command.TheVariants.{Play, Drain}
use Rattle.script.specs.declared.run.Stop.{Stop}

-- a line that 0A ends, and bytes behind the last 0A
pub data Line : Type 0 where
  ended : List ℕ → Line
  unended : List ℕ → Line

-- the line that has begun, if it has
abbrev pub begun_line : List ℕ → List Line
begun_line [] = []
begun_line (b ∷ bs) = unended (b ∷ bs) ∷ []

-- the lines of bytes that follow the beginning of a line
unfoldable pub lines_from : List ℕ → List ℕ → List Line
lines_from line [] = begun_line line
lines_from line (b ∷ bs) = cond (b == 10) (ended line ∷ lines_from [] bs) (lines_from (line ++ b ∷ []) bs)

abbrev pub lines_of : List ℕ → List Line
lines_of bs = lines_from [] bs

-- what one line does
abbrev pub obeyed : {M : Type 0} → Kind M → Rulebook M → Program → Table M → Command → Outcome M
obeyed k u s t (Play n) = played k u s t n
obeyed k u s t (Drain p) = drained k u s t p

-- how a script ends: the number of its lines, or where it stopped, and what is held
pub record Ending (M : Type 0) : Type 0 where
  pub answer : Result ℕ Stop
  pub after : Table M

abbrev pub stopped : {M : Type 0} → ℕ → BenchFault → Table M → Ending M
stopped n f t = record { answer = Err (record { line = n; fault = f }); after = t }

-- go on from what line n has left, unless it was refused
abbrev pub onwards : {M : Type 0} → ℕ → Result (Unit {0}) BenchFault → Table M → (Table M → Ending M) → Ending M
onwards n (Ok x) t f = f t
onwards n (Err e) t f = stopped n e t

abbrev pub by_command : {M : Type 0} → Kind M → Rulebook M → Program → ℕ → Option Command → Table M → (Table M → Ending M) → Ending M
by_command k u s n None t f = stopped n (Unreadable n) t
by_command k u s n (Some c) t f = onwards n (obeyed k u s t c).answer (obeyed k u s t c).after f

-- the lines from number n on
unfoldable pub folded : {M : Type 0} → Kind M → Rulebook M → Program → ℕ → List Line → Table M → Ending M
folded k u s n [] t = record { answer = Ok n; after = t }
folded k u s n (ended line ∷ rest) t = by_command k u s n (line_command line) t (folded k u s (n + 1) rest)
folded k u s n (unended line ∷ rest) t = stopped n (Unreadable n) t

abbrev pub unless_unready : {M : Type 0} → Option BenchFault → Table M → Ending M → Ending M
unless_unready (Some f) t o = stopped 0 f t
unless_unready None t o = o

abbrev pub scripted : {M : Type 0} → Kind M → Rulebook M → Program → Table M → List ℕ → Ending M
scripted k u s t bs = unless_unready (unready k u s t) t (folded k u s 0 (lines_of bs) t)

abbrev pub Ended : {M : Type 0} → Ending M → Result ℕ Stop → Table M → Type 0
Ended o r t = (r ≡ o.answer) × (t ≡ o.after)
