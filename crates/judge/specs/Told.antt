-- How a verdict is told.
use Rattle.std.specs.Prelude.{ℕ, List, ◌++◌, codes, decimal}
use Rattle.judge.specs.declared.verdict.Verdict.{Verdict}
use Rattle.judge.specs.declared.verdict.Verdict.TheVariants.{Safe, Start, Bad, Leak}

-- the line that is printed
abbrev pub verdict_text : Verdict → List ℕ
verdict_text Safe = codes "verdict safe"
verdict_text (Start line) = codes "verdict start " ++ decimal line
verdict_text Bad = codes "verdict bad"
verdict_text (Leak line move) = codes "verdict leak " ++ decimal line ++ codes " " ++ decimal move
