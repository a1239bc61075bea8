-- How a tally is told.
use Rattle.std.specs.Prelude.{ℕ, List, ◌++◌, codes, decimal}
use Rattle.console.specs.declared.tally.Tally.{Tally}

abbrev pub tally_text : Tally → List ℕ
tally_text t = decimal t.cases ++ codes " cases, " ++ decimal t.agreeing ++ codes " agree"
