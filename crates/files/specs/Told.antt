-- The lines by which sizes and refusals are told.
use Rattle.std.specs.Prelude.{ℕ, List, ◌++◌, codes, decimal}
use Rattle.files.specs.declared.refusal.Refusal.{Refusal}
use Rattle.files.specs.declared.sizes.Sizes.{Sizes}

abbrev pub refusal_text : Refusal → List ℕ
refusal_text r =
    codes "refused " ++ decimal r.number ++ codes " " ++ decimal r.part ++ codes " " ++ decimal r.place ++ codes " " ++ decimal r.inner

-- the counts of processes, variables, values, transitions and patterns
abbrev pub sizes_text : Sizes → List ℕ
sizes_text z =
    codes "system " ++ decimal z.processes ++ codes " " ++ decimal z.variables ++ codes " " ++ decimal z.values ++ codes " "
    ++ decimal z.transitions ++ codes " " ++ decimal z.patterns
