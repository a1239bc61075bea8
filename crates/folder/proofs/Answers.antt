-- From the checks that a call makes, and the rows after it, to its answer case by case.
use Rattle.std.proofs.Common.{◌≡◌, ℕ, ◌+◌, ◌*◌, ◌<◌, ◌≤◌, List, ◌++◌, length, drop, Ok, Err, Result, sym, refl, ap, ◌∙◌, subst, inl, inr, arith}
use Rattle.std.proofs.lemmas.List.{length-append}
use Rattle.std.proofs.lemmas.List.Elements.{length_all_zip}
use Rattle.files.specs.Bytes.{two}
use Rattle.files.specs.Directory.{lines_of}
use Rattle.files.proofs.Writes.{length_lines}
use Rattle.machines.specs.Kind.{Kind, Rules}
use Rattle.rows.specs.Checks.{◌before◌, holds_rows, places, wiped}
use Rattle.rows.specs.Listing.{RowOf}
use Rattle.rows.specs.Standing.{standing}
use Rattle.rows.specs.declared.fault.FolderFault.{FolderFault}
use Rattle.rows.proofs.Rows.{standing_length}
use Rattle.judge.specs.Verdicts.{WitnessLeft, judge_checks}
use Rattle.judge.specs.declared.verdict.Verdict.{Verdict}
use Rattle.folder.specs.Answers.{JudgeAnswer, TakeInAnswer}
use Rattle.folder.specs.Calls.{KeptBehind, Ruled, TakenIn, take_in_checks}
use Rattle.folder.proofs.Adding.{added_each}

-- what holds of the number of rows holds of the count
by_count : (w n : ℕ) (m : List ℕ) (P : ℕ → Type 0) → P (length (standing w n m)) → P n
by_count w n m P h = subst P (standing_length w n m) h

module _ (k : Kind) (u : Rules) (n : ℕ) (m file : List ℕ) where
  abbrev before_call : List (List ℕ)
  before_call = standing k.width n m

  -- what take in answers where it is turned down
  pub take_in_refused : (n * k.width ≤ length m → n ≤ places k.width (length m)) → (e : FolderFault) → (take_in_checks k u (length m) file before_call).Fails e → TakeInAnswer k u n n m m file (Err e)
  take_in_refused placed e (inl (short, f)) =
      subst (λ x. TakeInAnswer k u n n m m file (Err x)) (sym f)
      (by_count k.width n m (λ i. length m < i * k.width) short, ap (λ i. i * k.width) (standing_length k.width n m), refl, refl)
  take_in_refused placed e (inr (held, inl (at, wrong, f))) =
      subst (λ x. TakeInAnswer k u n n m m file (Err x)) (sym f) (by_count k.width n m (λ i. i * k.width ≤ length m) held, wrong, refl, refl)
  take_in_refused placed e (inr (held, inr (right, inl (i, l, h, all, wrong, f)))) =
      subst (λ x. TakeInAnswer k u n n m m file (Err x)) (sym f) (by_count k.width n m (λ q. q * k.width ≤ length m) held, right, h, all, wrong, refl, refl)
  take_in_refused placed e (inr (held, inr (right, inr (all, (full, f))))) =
      let room = by_count k.width n m (λ i. i * k.width ≤ length m) held in
      let free = placed room in
      let more = by_count k.width n m (λ i. places k.width (length m) < i + two file 0) full in
      subst (λ x. TakeInAnswer k u n n m m file (Err x)) (sym f) (room, right, all, omega arith, standing_length k.width n m, refl, refl)

  -- and where it is not
  pub take_in_done : (n' : ℕ) (m' : List ℕ) → TakenIn k u (length m) file before_call (Ok tt) (standing k.width n' m') → KeptBehind {A = Unit {0}} k.width n' m m' (Ok tt) → TakeInAnswer k u n n' m m' file (Ok tt)
  take_in_done n' m' ((held, (right, (all, free))), (rows, each, stand)) kept =
      let w = k.width in
      let long : length rows ≡ two file 0 = sym (length_all_zip (RowOf u) (lines_of file) rows each) ∙ length_lines (two file 0) 0 file in
      let total : n' ≡ n + two file 0 =
      sym (standing_length w n' m') ∙ ap length stand ∙ length-append before_call rows ∙ ap (λ i. i + length rows) (standing_length w n m) ∙ ap (λ i. n + i) long
      in
      let room = by_count w n m (λ i. i + two file 0 ≤ places w (length m)) free in (
        by_count w n m (λ i. i * w ≤ length m) held,
        right,
        all,
        omega arith,
        total,
        added_each k u file n m (two file 0) m' (rows, each, subst (λ i. standing w i m' ≡ before_call ++ rows) total stand, subst (λ i. drop (i * w) m' ≡ drop (i * w) m) total kept),
      )

module _ (k : Kind) (u : Rules) (n : ℕ) (m s s' t t' : List ℕ) where
  abbrev rows : List (List ℕ)
  rows = standing k.width n m

  held_rows : (holds_rows k.width (length rows) (length m)).Passes → n * k.width ≤ length m
  held_rows held = by_count k.width n m (λ i. i * k.width ≤ length m) held

  abbrev Left : FolderFault → Type 0
  Left e = s' ≡ wiped {A = Verdict} (Err e) s → t' ≡ wiped {A = Verdict} (Err e) t → JudgeAnswer k u n m s s' t t' (Err e)

  pub judge_refused : (e : FolderFault) → (holds_rows k.width (length rows) (length m) before judge_checks k u rows (length s) (length t)).Fails e → Left e
  judge_refused e (inl (short, f)) =
      subst Left (sym f)
      (λ hs ht. (inl (by_count k.width n m (λ i. length m < i * k.width) short, ap (λ i. i * k.width) (standing_length k.width n m)), hs, ht))
  judge_refused e (inr (held, inl (short, f))) = subst Left (sym f) (λ hs ht. (inr (held_rows held, inl short, refl), hs, ht))
  judge_refused e (inr (held, inr (ws, inl (short, f)))) = subst Left (sym f) (λ hs ht. (inr (held_rows held, inr short, refl), hs, ht))
  judge_refused e (inr (held, inr (ws, inr (wt, (i, low, f))))) = subst Left (sym f) (λ hs ht. ((held_rows held, ws, wt), low, hs, ht))

  -- what judge answers
  pub judge_answer : (r : Result Verdict FolderFault) → Ruled k u (length m) (length s) (length t) rows r → s' ≡ wiped r s → WitnessLeft k u rows r t t' → JudgeAnswer k u n m s s' t t' r
  judge_answer (Err e) fails strip witness = judge_refused e fails strip witness
  judge_answer (Ok v) ((held, (ws, (wt, all))), judged) strip witness = ((held_rows held, ws, wt), all, judged, strip, witness)
