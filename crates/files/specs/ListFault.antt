-- The numbers by which each fault of a list file is told.
use Rattle.std.specs.Prelude.{ℕ}
use Rattle.files.specs.declared.list_fault.LineFault.{LineFault}
use Rattle.files.specs.declared.list_fault.LineFault.TheVariants.{Byte, Early}
use Rattle.files.specs.declared.list_fault.ListFault.{ListFault}
use Rattle.files.specs.declared.list_fault.ListFault.TheVariants.{Directory, Line}
use Rattle.files.specs.declared.refusal.Refusal.{Refusal}

-- the place in the line
abbrev pub line_inner : LineFault → ℕ
line_inner (Byte i) = i
line_inner (Early n) = n

abbrev pub list_numbers : ListFault → Refusal
list_numbers (Directory place) = record { number = 6; part = 2; place = place; inner = 0 }
list_numbers (Line number fault) = record { number = 7; part = 2; place = number; inner = line_inner fault }
