-- What a safe verdict on a system's load-buffer machine says of its store buffers.
use Rattle.std.proofs.Common.{Ok, refl}
use Rattle.files.specs.Program.{program}
use Rattle.files.specs.declared.system.System.{System}
use Rattle.machines.specs.LoadBuffers.{load_start}
use Rattle.machines.specs.Matched.{StoreSafe}
use Rattle.machines.proofs.Matched.{store_safe}
use Rattle.machines.proofs.Staying.{run_stays, start_in_range}
use Rattle.fronts.proofs.Systems.{count_range, known}
use Rattle.load_buffers.specs.LoadRules.{load_rules}
use Rattle.load_buffers.proofs.Systems.{drawn}
use Rattle.judge.specs.Verdicts.{Harmless, SafeHolds}
use Rattle.judge.specs.declared.verdict.Verdict.{Verdict}
use Rattle.judge.specs.declared.verdict.Verdict.TheVariants.{Safe, Start, Bad, Leak}
use Rattle.report.specs.Checked.{SafeMeans}

-- a machine that does no harm has a system whose store-buffer runs do none
stores_safe : (m : System) → Harmless (load_rules (program m)) → StoreSafe (program m)
stores_safe m harmless =
    let s = program m in
    let all = drawn (known m) in
    let start = start_in_range s (known m).values.0 (λ p h. (count_range (known m) p h).0) in
    store_safe s all (λ d (ks, run) bad. let (steps, here) = run_stays all start run in harmless (load_start s) d refl (ks, steps) (here, bad))

pub safe_means : (m : System) (v : Verdict) → SafeHolds (load_rules (program m)) (Ok v) → SafeMeans (program m) v
safe_means m Safe h = stores_safe m h
safe_means m (Start i) h = tt
safe_means m Bad h = tt
safe_means m (Leak i k) h = tt
