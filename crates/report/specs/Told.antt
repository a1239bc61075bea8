-- How a check is told: a line a stage, and a refusal in place of the line at which it stops.
use Rattle.std.specs.Prelude.{ℕ, List, ◌++◌, codes, decimal}
use Rattle.files.specs.Told.{refusal_text, sizes_text}
use Rattle.judge.specs.Told.{verdict_text}
use Rattle.report.specs.declared.outcome.Outcome.{Outcome}
use Rattle.report.specs.declared.outcome.Outcome.TheVariants.{NoSystem, NoList, Judged}

abbrev pub outcome_text : Outcome → List ℕ
outcome_text (NoSystem r) = refusal_text r
outcome_text (NoList z r) = sizes_text z ++ codes "\n" ++ refusal_text r
outcome_text (Judged z lines v) = sizes_text z ++ codes "\nlines " ++ decimal lines ++ codes "\n" ++ verdict_text v
