-- Whatever a store-buffer run reaches, a load-buffer run reaches too, with empty queues.
use Rattle.std.specs.Prelude.{◌≡◌, ℕ, List, []}
use Rattle.std.specs.List.{AllByRecursion}
use Rattle.files.specs.Program.{Program}
use Rattle.machines.specs.Config.{Config}
use Rattle.machines.specs.Step.{Run, Traced}
use Rattle.machines.specs.StoreBuffers.{StoreRule, StoreStep, store_start, StoreBad}
use Rattle.machines.specs.LoadBuffers.{LoadRule, LoadStep, load_start, LoadBad}

-- a load-buffer run ends in the same states, and each process makes the same transitions in the same order
abbrev pub StoreTraced : Program → Type 0
StoreTraced s =
    (c : Config) (made : List (List ℕ)) → Traced s (StoreRule s) (store_start s) made c
    → (d : Config) × Traced s (LoadRule s) (load_start s) made d × (d.states ≡ c.states) × AllByRecursion (λ b. b ≡ []) d.queues

-- so if a store-buffer run ends badly, with anything still queued, then some load-buffer run does
abbrev pub StoreMatched : Program → Type 0
StoreMatched s =
    (c : Config) → Run (StoreStep s) (store_start s) c → StoreBad s c → (d : Config) × Run (LoadStep s) (load_start s) d × LoadBad s d

-- no run from the start ends badly
abbrev pub StoreSafe : Program → Type 0
StoreSafe s = (c : Config) → Run (StoreStep s) (store_start s) c → StoreBad s c → ⊥

abbrev pub LoadSafe : Program → Type 0
LoadSafe s = (d : Config) → Run (LoadStep s) (load_start s) d → LoadBad s d → ⊥
