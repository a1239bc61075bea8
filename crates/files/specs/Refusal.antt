-- A refusal that has no place inside its place.
use Rattle.std.specs.Prelude.{ℕ}
use Rattle.files.specs.declared.refusal.Refusal.{Refusal}

abbrev pub refused : ℕ → ℕ → ℕ → Refusal
refused number part place = record { number = number; part = part; place = place; inner = 0 }
