use Rattle.machines.proofs.hardware.load_buffers_cover_stores.Goals as goal
use Rattle.machines.proofs.Matched.{store_traced, store_matched, store_safe}

pub returns : goal.returns
returns c = record { traced = store_traced; matched = store_matched; safe = store_safe }
