-- From the verdict on the rows to what judge promises.
use Rattle.std.proofs.Common.{◌≡◌, ℕ, ◌-◌, ◌≤◌, List, ◌++◌, length, Ok, Err, Result, sym, refl, ap, ◌∙◌, subst, inr, arith}
use Rattle.std.proofs.lemmas.List.{replicate-append-replicate}
use Rattle.machines.specs.Config.{Config}
use Rattle.machines.specs.Kind.{Kind, Rules}
use Rattle.machines.specs.Step.{Runs, stay, ◌then◌}
use Rattle.rows.specs.Checks.{Answered, wiped}
use Rattle.rows.specs.Cover.{Uncovered}
use Rattle.rows.specs.Standing.{zeros}
use Rattle.rows.specs.declared.fault.FolderFault.{FolderFault}
use Rattle.judge.specs.declared.verdict.Verdict.{Verdict}
use Rattle.judge.specs.declared.verdict.Verdict.TheVariants.{Safe, Start, Bad, Leak}
use Rattle.judge.specs.Verdicts.{Harmless, Judged, RowsJudged, SafeHolds, WitnessLeft, judge_checks}

-- Covered is not decided here, so it is carried under two negations.
module _ (k : Kind) (u : Rules) (ls : List (List ℕ)) (safe : Judged k u ls Safe) where
  back : {c d : Config} {ks : List ℕ} → Runs u.Step c ks d → (Uncovered k ls d → ⊥) → Uncovered k ls c → ⊥
  back stay h = h
  back (◌then◌ {b = b} {c = d} {k = mv} r s) h = back r (λ un. h (λ cov. safe.2 cov.0 (mv, (cov.1.0, (b, (un, (d, (s, cov.1.1))))))))

  harmless : Harmless u
  harmless c d start (ks, r) bad = back r (λ un. safe.1 (d, (bad, un))) (λ cov. safe.0 cov.0 (cov.1.0, (c, (start, cov.1.1))))

-- The verdict on a strip and a witness of one row gives what judge promises: s and t are strip and witness before, s' and t' after.
pub record Promised (k : Kind) (u : Rules) (ls : List (List ℕ)) (r : Result Verdict FolderFault) (s s' t t' : List ℕ) : Type 0 where
  pub answer : Answered (judge_checks k u ls (length s) (length t)) (Judged k u ls) r
  pub strip : s' ≡ wiped r s
  pub witness : WitnessLeft k u ls r t t'
  pub safe : SafeHolds u r

module _ (k : Kind) (u : Rules) (ls : List (List ℕ)) (s s' t t' b : List ℕ) (ws : k.width ≤ length s) (wt : k.width ≤ length t) (strip : s' ≡ zeros (length s)) (witness : t' ≡ b ++ zeros (length t - k.width)) (long : length b ≡ k.width) where
  clear : b ≡ zeros k.width → t' ≡ zeros (length t)
  clear e =
      witness ∙ ap (λ l. l ++ zeros (length t - k.width)) e ∙ replicate-append-replicate k.width (length t - k.width) 0
      ∙ ap (λ i. zeros i) (omega arith)

  answered : (v : Verdict) → SafeHolds u (Ok v) → RowsJudged k u ls b (Ok v) → Promised k u ls (Ok v) s s' t t'
  answered v h j = record { answer = ((ws, (wt, j.0)), j.1); strip = strip; witness = (b, (long, j.2, witness)); safe = h }

  pub promised : (r : Result Verdict FolderFault) → RowsJudged k u ls b r → Promised k u ls r s s' t t'
  promised (Ok Safe) j = answered Safe (harmless k u ls j.1) j
  promised (Ok (Start i)) j = answered (Start i) tt j
  promised (Ok Bad) j = answered Bad tt j
  promised (Ok (Leak i mv)) j = answered (Leak i mv) tt j
  promised (Err e) j =
      subst (λ f. Promised k u ls (Err f) s s' t t') (sym j.0.2)
      (record { answer = inr (ws, inr (wt, (j.0.0, j.0.1, refl))); strip = strip; witness = clear j.1; safe = tt })
