-- Checks, one after another.
use Rattle.std.proofs.Common.{Ok, Err, Result, inr}
use Rattle.rows.specs.Checks.{Answered, Check, ◌before◌}
use Rattle.rows.specs.declared.fault.FolderFault.{FolderFault}

-- an answer behind one check more, which passed
pub checked_first : {A : Type 0} (a b : Check) (Does : A → Type 0) (r : Result A FolderFault) → a.Passes → Answered b Does r → Answered (a before b) Does r
checked_first a b Does (Ok x) p h = ((p, h.0), h.1)
checked_first a b Does (Err e) p h = inr (p, h)
