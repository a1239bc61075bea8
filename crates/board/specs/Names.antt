-- The names of the three machines.
use Rattle.std.specs.Prelude.{◌≡◌, ◌≢◌, ℕ, List, codes, Result, MatchResult}
use Rattle.board.specs.declared.machine.Machine.{Machine}
use Rattle.board.specs.declared.machine.Machine.TheVariants.{StoreBuffers, LoadBuffers, Plain}
use Rattle.board.specs.declared.machine.UnknownMachine.{UnknownMachine}

abbrev pub name_of : Machine → List ℕ
name_of StoreBuffers = codes "store"
name_of LoadBuffers = codes "load"
name_of Plain = codes "plain"

-- the machine with this name, or the error if there is none
abbrev pub Named : List ℕ → Result Machine UnknownMachine → Type 0
Named text r = MatchResult r (λ m. text ≡ name_of m) (λ _. (m : Machine) → text ≢ name_of m)
