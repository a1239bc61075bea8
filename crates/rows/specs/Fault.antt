-- The numbers by which the folder's refusals are told.
use Rattle.std.specs.Prelude.{ℕ}
use Rattle.files.specs.declared.refusal.Refusal.{Refusal}
use Rattle.files.specs.ListFault.{line_inner, list_numbers}
use Rattle.rows.specs.declared.fault.FolderFault.{FolderFault}
use Rattle.rows.specs.declared.fault.FolderFault.TheVariants.{Short, List, Line, NoLine, Unstorable, StartInside, Full, NothingStorable}

-- a refusal by the folder, which is part 3
abbrev pub of_part_three : ℕ → ℕ → ℕ → Refusal
of_part_three n at inner = record { number = n; part = 3; place = at; inner = inner }

abbrev pub folder_numbers : FolderFault → Refusal
folder_numbers (Short bytes) = of_part_three 1 bytes 0
folder_numbers (List f) = list_numbers f
folder_numbers (Line f) = of_part_three 7 0 (line_inner f)
folder_numbers (NoLine number) = of_part_three 8 number 0
folder_numbers (Unstorable line) = of_part_three 9 line 0
folder_numbers (StartInside line) = of_part_three 10 line 0
folder_numbers (Full lines) = of_part_three 11 lines 0
folder_numbers (NothingStorable lines) = of_part_three 12 lines 0
