-- A list taken into an empty folder whose memory holds every list, and judged there.
use Rattle.std.proofs.Common.{◌≡◌, ℕ, ◌+◌, ◌-◌, ◌*◌, ◌/◌, ◌<◌, ◌≤◌, List, [], length, get_or, None, Err, sym, refl, ap, ◌∙◌, subst, inl, inr, mul-le-mul_left, zero-mul, arith}
use Rattle.std.proofs.lemmas.Nat.{le-div}
use Rattle.std.proofs.lemmas.Bool.Decides.{nat_tests}
use Rattle.files.specs.Bytes.{two}
use Rattle.files.specs.Directory.{dir_fault, line_of}
use Rattle.files.specs.ListFault.{list_numbers}
use Rattle.files.specs.Program.{Program}
use Rattle.files.specs.declared.list_fault.ListFault.{ListFault}
use Rattle.files.specs.declared.list_fault.ListFault.TheVariants.{Directory, Line}
use Rattle.load_buffers.specs.Configs.{load_kind}
use Rattle.load_buffers.specs.LoadRules.{load_rules}
use Rattle.machines.specs.Kind.{Kind, Rules}
use Rattle.rows.specs.Checks.{places}
use Rattle.rows.specs.Cover.{AllStorable}
use Rattle.rows.specs.Fault.{folder_numbers}
use Rattle.rows.specs.Standing.{standing}
use Rattle.rows.specs.declared.fault.FolderFault.{FolderFault}
use Rattle.rows.specs.declared.fault.FolderFault.TheVariants.{Short, List as Listed, Line as OneLine, NoLine, Unstorable, StartInside, Full, NothingStorable}
use Rattle.rows.proofs.Rows.{places_fit}
use Rattle.judge.specs.Verdicts.{Judged}
use Rattle.judge.specs.declared.verdict.Verdict.{Verdict}
use Rattle.folder.specs.Answers.{Added, JudgeAnswer, TakeInAnswer}
use Rattle.report.specs.Checked.{ListWrong}

few_lines : (file : List ℕ) → dir_fault file ≡ None → two file 0 ≤ 1024
few_lines file h = grind (arith, nat_tests)

-- a list that is not taken in is wrong
pub list_wrong : (s : Program) (n : ℕ) (m m' file : List ℕ) (e : FolderFault) → 0 < (load_kind s).width → (load_kind s).width ≤ 48 → length m ≡ 49152
    → TakeInAnswer (load_kind s) (load_rules s) 0 n m m' file (Err e) → (f : ListFault) × ListWrong s file f × (folder_numbers e ≡ list_numbers f)
list_wrong s n m m' file (Short b) some narrow long h = absurd (omega (arith, zero-mul (load_kind s).width, h.0))
list_wrong s n m m' file (Listed (Directory at)) some narrow long h = (Directory at, h.1, refl)
list_wrong s n m m' file (Listed (Line i f)) some narrow long h = (Line i f, (h.1, h.2, h.3, h.4), refl)
list_wrong s n m m' file (Full i) some narrow long h =
    let w = (load_kind s).width in
    let p : 1024 * w ≤ 1024 * 48 = mul-le-mul_left 1024 narrow in
    let q : 1024 ≤ length m / w = le-div 1024 (length m) w some (omega arith) in
    absurd (omega (arith, few_lines file h.1, h.3))
list_wrong s n m m' file (Unstorable i) some narrow long h = absurd h
list_wrong s n m m' file (OneLine f) some narrow long h = absurd h
list_wrong s n m m' file (NoLine i) some narrow long h = absurd h
list_wrong s n m m' file (StartInside i) some narrow long h = absurd h
list_wrong s n m m' file (NothingStorable i) some narrow long h = absurd h

-- lines for which there are places lie within memory
pub rows_fit : (n i w memory : ℕ) → n ≡ 0 + i → i ≤ places w memory - 0 → n * w ≤ memory
rows_fit n i w memory e h = places_fit n w memory (omega arith)

module _ (k : Kind) (u : Rules) (file m m' : List ℕ) (n : ℕ) (count : n ≡ 0 + two file 0) (added : Added k u file 0 (two file 0) m m') where
  -- in a folder that was empty, the rows that stand are those that were added
  rows_are : standing k.width n m' ≡ added.0
  unfolding standing
  rows_are = ap (λ i. standing k.width i m') count ∙ added.3

  stored : AllStorable u (standing k.width n m')
  stored = subst (AllStorable u) (sym rows_are) (λ i h. (added.2 i (omega (arith, added.1))).0)

  -- the judge does not refuse them
  pub not_refused : (s s' t t' : List ℕ) (e : FolderFault) → JudgeAnswer k u n m' s s' t t' (Err e) → n * k.width ≤ length m' → k.width ≤ length s → k.width ≤ length t → ⊥
  not_refused s s' t t' (Short b) (inl (a, e), c, d) hm hs ht = omega arith
  not_refused s s' t t' (Short b) (inr (a, inl g, e), c, d) hm hs ht = omega arith
  not_refused s s' t t' (Short b) (inr (a, inr g, e), c, d) hm hs ht = omega arith
  not_refused s s' t t' (Unstorable i) h hm hs ht = h.1.0.1 (stored i h.1.0.0)
  not_refused s s' t t' (Listed f) h hm hs ht = h
  not_refused s s' t t' (Full i) h hm hs ht = h
  not_refused s s' t t' (OneLine f) h hm hs ht = h
  not_refused s s' t t' (NoLine i) h hm hs ht = h
  not_refused s s' t t' (StartInside i) h hm hs ht = h
  not_refused s s' t t' (NothingStorable i) h hm hs ht = h

  pub judged_rows : (v : Verdict) → Judged k u (standing k.width n m') v → (rows : List (List ℕ)) × (length rows ≡ two file 0) × ((i : ℕ) → i < two file 0 → u.Storable (get_or rows i []) × (line_of file i ≡ u.line_of (get_or rows i []))) × Judged k u rows v
  judged_rows v j = (added.0, added.1, added.2, subst (λ ls. Judged k u ls v) rows_are j)
