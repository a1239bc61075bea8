-- The numbers by which the faults of a system file are told.
use Rattle.std.specs.Prelude.{ℕ}
use Rattle.files.specs.declared.refusal.Refusal.{Refusal}
use Rattle.files.specs.Refusal.{refused}
use Rattle.files.specs.declared.system_fault.SystemFault.{SystemFault}
use Rattle.files.specs.declared.system_fault.SystemFault.TheVariants.{Sections, Size, Transition, Pattern, Memory}

-- a refusal by the system file, which is part 1
abbrev pub of_part_one : ℕ → ℕ → Refusal
of_part_one n at = refused n 1 at

abbrev pub system_numbers : SystemFault → Refusal
system_numbers (Sections at) = of_part_one 2 at
system_numbers (Size at) = of_part_one 3 at
system_numbers (Transition at) = of_part_one 4 at
system_numbers (Pattern at) = of_part_one 5 at
system_numbers Memory = of_part_one 0 0
