-- The numbers by which the bench's refusals are told.
use Rattle.std.specs.Prelude.{ℕ}
use Rattle.files.specs.declared.refusal.Refusal.{Refusal}
use Rattle.files.specs.Refusal.{refused}
use Rattle.bench.specs.declared.fault.BenchFault.{BenchFault}
use Rattle.bench.specs.declared.fault.BenchFault.TheVariants.{Short, Wrong, Unreadable, Impossible, Full}

-- a refusal by the bench, which is part 4
abbrev pub of_part_four : ℕ → ℕ → Refusal
of_part_four n at = refused n 4 at

abbrev pub bench_numbers : BenchFault → Refusal
bench_numbers (Short records) = of_part_four 1 records
bench_numbers (Wrong place) = of_part_four 9 place
bench_numbers (Unreadable line) = of_part_four 13 line
bench_numbers (Impossible move) = of_part_four 14 move
bench_numbers (Full process) = of_part_four 15 process
