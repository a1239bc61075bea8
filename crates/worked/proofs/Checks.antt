-- Tests that verdicts follow from. They ask of the start, the numbered bad rows and the numbered step rows whether a line is below them.
use Rattle.std.proofs.Common.{◌≡◌, ℕ, zero, suc, ◌<◌, ◌≤◌, Bool, true, false, not, ◌&&◌, ◌||◌, leb, List, [], ◌∷◌, map, length, get_or, take, is_some, Some, None, Option, sym, refl, ap, ◌∙◌, subst, ⊎_elim, arith}
use mathlib.Core.Bool.{false≢true}
use Rattle.std.proofs.ByRecursion.{All-get_or}
use Rattle.std.proofs.lemmas.List.{get_or-take, length-take}
use Rattle.std.proofs.lemmas.Option.{slice_get-get_or}
use Rattle.std.proofs.lemmas.Bool.{and_parts, cases_lt, leb-true, or_cases, or_left, or_right}
use Rattle.std.specs.List.{AllByRecursion, slice_get}
use Rattle.files.proofs.Invariant.{every_at}
use Rattle.files.specs.Pieces.{every}
use Rattle.files.specs.Program.{Program}
use Rattle.files.specs.Sizes.{right_sizes}
use Rattle.files.specs.declared.list_fault.LineFault.{LineFault}
use Rattle.fronts.proofs.Systems.{Known}
use Rattle.machines.specs.Config.{Config}
use Rattle.machines.specs.LoadBuffers.{load_start}
use Rattle.machines.specs.Order.{LoadBelow}
use Rattle.load_buffers.proofs.Answered.{nth_some}
use Rattle.load_buffers.proofs.BadLaws.{bad_covered}
use Rattle.load_buffers.specs.Below.{load_trans}
use Rattle.load_buffers.specs.LineRows.{fault_none}
use Rattle.load_buffers.specs.Configs.{config_of, load_kind}
use Rattle.load_buffers.specs.LoadRules.{load_rules}
use Rattle.load_buffers.specs.Reading.{line_fault, row_of}
use Rattle.load_buffers.specs.Rows.{Storable}
use Rattle.load_buffers.specs.StepRows.{StepRow, no_step, step_rows}
use Rattle.rows.proofs.Cover.{no_bad_open}
use Rattle.rows.specs.Cover.{AllStorable, AtStart, BadOpen, Covered, LeakBy, Uncovered}
use Rattle.rows.specs.Search.{Never}
use Rattle.judge.proofs.Escapes.{escaped, is_line as above-line, row_escapes}
use Rattle.judge.specs.Verdicts.{Judged}
use Rattle.judge.specs.declared.verdict.Verdict.TheVariants.{Safe, Start, Leak}
use Rattle.worked.proofs.Compare.{is_below, below_true, below_is}
use Rattle.load_buffers.proofs.Steppings.{step_sound, step_covered}

-- some line is below c
abbrev pub covers : Program → List (List ℕ) → Config → Bool
covers s [] c = false
covers s (a ∷ ls) c = is_below (config_of s a) c || covers s ls c

-- the bad rows below number n are covered
abbrev pub bad_rows_covered : Program → List (List ℕ) → ℕ → Bool
bad_rows_covered s ls zero = true
bad_rows_covered s ls (suc n) = covers s ls (config_of s ((load_rules s).bad_row n)) && bad_rows_covered s ls n

-- each step row of row a is covered
abbrev pub step_rows_covered : Program → List (List ℕ) → List ℕ → Bool
step_rows_covered s ls a = every (λ (r : StepRow). covers s ls (config_of s r.row)) (step_rows s a)

-- each is, unless its move is mv or a higher one
abbrev pub lower_rows_covered : Program → List (List ℕ) → ℕ → List ℕ → Bool
lower_rows_covered s ls mv a = every (λ (r : StepRow). leb mv r.move || covers s ls (config_of s r.row)) (step_rows s a)

-- the bytes are a line
abbrev pub is_line : Program → List ℕ → Bool
is_line s l = not (is_some (line_fault s l))

none_left : (o : Option LineFault) → not (is_some o) ≡ true → o ≡ None
none_left o e = grind arith

covers_true : (s : Program) (ls : List (List ℕ)) (c : Config) → covers s ls c ≡ true → Covered (load_kind s) ls c
covers_true s [] c e = absurd (false≢true e)
covers_true s (a ∷ ls) c e =
    ⊎_elim
    (λ h. (0, (omega arith, below_true (config_of s a) c h)))
    (λ h. later (covers_true s ls c h))
    (or_cases (is_below (config_of s a) c) (covers s ls c) e)
  where
    later : Covered (load_kind s) ls c → Covered (load_kind s) (a ∷ ls) c
    later (i, (l, h)) = (suc i, (omega arith, h))

covers_line : (s : Program) (ls : List (List ℕ)) (c : Config) (i : ℕ) → i < length ls → LoadBelow (config_of s (get_or ls i [])) c → covers s ls c ≡ true
covers_line s [] c i l h = absurd (omega arith)
covers_line s (a ∷ ls) c zero l h = or_left (is_below (config_of s a) c) (covers s ls c) (below_is (config_of s a) c h)
covers_line s (a ∷ ls) c (suc i) l h = or_right (is_below (config_of s a) c) (covers s ls c) (covers_line s ls c i (omega arith) h)

uncovered : (s : Program) (ls : List (List ℕ)) (c : Config) → covers s ls c ≡ false → Uncovered (load_kind s) ls c
uncovered s ls c e (i, (l, h)) = false≢true (sym e ∙ covers_line s ls c i l h)

bad_at : (s : Program) (ls : List (List ℕ)) (n : ℕ) → bad_rows_covered s ls n ≡ true → (j : ℕ) → j < n → Covered (load_kind s) ls (config_of s ((load_rules s).bad_row j))
bad_at s ls zero e j l = absurd (omega arith)
bad_at s ls (suc n) e j l =
    let (a, b) = and_parts (covers s ls (config_of s ((load_rules s).bad_row n))) (bad_rows_covered s ls n) e in
    ⊎_elim
    (λ (h : j < n). bad_at s ls n b j h)
    (λ (h : n ≤ j). let same : j ≡ n = omega arith in rw same (covers_true s ls (config_of s ((load_rules s).bad_row n)) a))
    (cases_lt j n)

no_start : (s : Program) (ls : List (List ℕ)) → covers s ls (load_start s) ≡ false → Never (AtStart (load_kind s) (load_rules s) ls)
no_start s ls e j (l, (c, (start, h))) = uncovered s ls (load_start s) e (j, (l, subst (LoadBelow (config_of s (get_or ls j []))) start h))

-- the rows of lines are storable
lines_stored : (s : Program) → right_sizes s.states s.variables s.values ≡ true → (lines : List (List ℕ)) → every (is_line s) lines ≡ true
    → AllByRecursion (Storable s) (map (row_of s) lines)
lines_stored s right [] e = tt
lines_stored s right (l ∷ lines) e =
    let (a, b) = and_parts (is_line s l) (every (is_line s) lines) e in
    ((fault_none s right l (none_left (line_fault s l) a)).0, lines_stored s right lines b)

pub all_stored : (s : Program) → right_sizes s.states s.variables s.values ≡ true → (lines rows : List (List ℕ)) → every (is_line s) lines ≡ true
    → map (row_of s) lines ≡ rows
    → AllStorable (load_rules s) rows
all_stored s right lines rows e f i h = All-get_or (Storable s) rows i [] h (rw f at (lines_stored s right lines e))

module _ (s : Program) (ls : List (List ℕ)) where
  -- line i is below the start, and none before it is
  pub first_start_lem : (i : ℕ) → i < length ls → is_below (config_of s (get_or ls i [])) (load_start s) ≡ true → covers s (take i ls) (load_start s) ≡ false
      → Judged (load_kind s) (load_rules s) ls (Start i)
  first_start_lem i l e none = ((l, (load_start s, (refl, below_true (config_of s (get_or ls i [])) (load_start s) e))), before)
    where
      before : (j : ℕ) → j < i → AtStart (load_kind s) (load_rules s) ls j → ⊥
      before j lower (h, (c, (start, under))) =
          let k : j < length (take i ls) = simp length-take (omega arith) in
          let at = get_or-take i ls j [] lower in
          no_start s (take i ls) none j (k, (c, (start, rw at under)))

module _ {s : Program} (known : Known s) (ls : List (List ℕ)) (stored : AllStorable (load_rules s) ls) where
  no_bad : bad_rows_covered s ls (load_rules s).bad_count ≡ true → BadOpen (load_kind s) (load_rules s) ls → ⊥
  no_bad e = no_bad_open (load_kind s) (load_rules s) ls load_trans (bad_covered s) (load_rules s).bad_count (omega arith) (bad_at s ls (load_rules s).bad_count e)

  -- what escapes above line i by a move is a step row with that move, which passes what each of them passes, and is not covered
  escapes : (test : StepRow → Bool) (i mv : ℕ) → every test (step_rows s (get_or ls i [])) ≡ true → LeakBy (load_kind s) (load_rules s) ls i mv
      → (r : StepRow) × (test r ≡ true) × (r.move ≡ mv) × (covers s ls (config_of s r.row) ≡ true → ⊥)
  escapes test i mv e (l, esc) =
      let k = load_kind s in
      let u = load_rules s in
      let a = get_or ls i [] in
      let (j, (h, move, out)) = escaped k u ls a load_trans (step_covered known a (stored i l)) (above-line k u ls i l a refl) mv esc in
      let r = get_or (step_rows s a) j no_step in
      (r, every_at test (step_rows s a) j r (slice_get-get_or (step_rows s a) j no_step h) e, move, λ t. out (covers_true s ls (config_of s r.row) t))

  no_leak : (i : ℕ) → step_rows_covered s ls (get_or ls i []) ≡ true → (mv : ℕ) → LeakBy (load_kind s) (load_rules s) ls i mv → ⊥
  no_leak i e mv leak =
      let (r, passed, move, out) = escapes (λ (r : StepRow). covers s ls (config_of s r.row)) i mv e leak in
      out passed

  no_lower : (i mv : ℕ) → lower_rows_covered s ls mv (get_or ls i []) ≡ true → (lower : ℕ) → lower < mv → LeakBy (load_kind s) (load_rules s) ls i lower → ⊥
  no_lower i mv e lower l leak =
      let (r, passed, move, out) = escapes (λ (r : StepRow). leb mv r.move || covers s ls (config_of s r.row)) i lower e leak in
      ⊎_elim (λ h. let low = leb-true mv r.move h in omega arith) out (or_cases (leb mv r.move) (covers s ls (config_of s r.row)) passed)

  -- a step row of line i that is not covered
  leaks : (i : ℕ) → i < length ls → (j : ℕ) (r : StepRow) → slice_get (step_rows s (get_or ls i [])) j ≡ Some r → covers s ls (config_of s r.row) ≡ false
      → LeakBy (load_kind s) (load_rules s) ls i r.move
  leaks i l j r e un =
      let k = load_kind s in
      let u = load_rules s in
      let a = get_or ls i [] in
      let (h, is) = nth_some (step_rows s a) j r no_step e in
      let out = uncovered s ls (config_of s r.row) un in
      let (_, esc) = row_escapes k u ls a (step_sound known a (stored i l)) j h (subst (λ (x : StepRow). Uncovered k ls (config_of s x.row)) (sym is) out) in
      (l, (config_of s (get_or (step_rows s a) j no_step).row, rw (ap (λ (x : StepRow). x.move) is) at esc))

  all_lines : (n : ℕ) → every (step_rows_covered s ls) (take n ls) ≡ true → (i : ℕ) → i < n → i < length ls → step_rows_covered s ls (get_or ls i []) ≡ true
  all_lines n e i l h =
      let k : i < length (take n ls) = simp length-take (omega arith) in
      let at = get_or-take n ls i [] l in
      every_at (step_rows_covered s ls) (take n ls) i (get_or ls i []) (slice_get-get_or (take n ls) i [] k ∙ ap Some at) e

  pub safe : covers s ls (load_start s) ≡ false → bad_rows_covered s ls (load_rules s).bad_count ≡ true → every (step_rows_covered s ls) ls ≡ true
      → Judged (load_kind s) (load_rules s) ls Safe
  safe start bad steps =
      (no_start s ls start, no_bad bad, λ i (mv, leak). no_leak i (every_at (step_rows_covered s ls) ls i (get_or ls i []) (slice_get-get_or ls i [] leak.0) steps) mv leak)

  pub lowest_leak_lem : (i : ℕ) → i < length ls → (j : ℕ) (r : StepRow) → slice_get (step_rows s (get_or ls i [])) j ≡ Some r → covers s ls (config_of s r.row) ≡ false
      → covers s ls (load_start s) ≡ false
      → bad_rows_covered s ls (load_rules s).bad_count ≡ true
      → every (step_rows_covered s ls) (take i ls) ≡ true
      → lower_rows_covered s ls r.move (get_or ls i []) ≡ true
      → Judged (load_kind s) (load_rules s) ls (Leak i r.move)
  lowest_leak_lem i l j r is un start bad before lower =
      let leak = leaks i l j r is un in (
        no_start s ls start,
        no_bad bad,
        ((r.move, leak), λ b h (mv, other). no_leak b (all_lines i before b h other.0) mv other),
        (leak, no_lower i r.move lower),
      )
