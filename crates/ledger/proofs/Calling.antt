-- Each call on the first bytes of what there is keeps the ledger.
use Rattle.std.proofs.Common.{◌≡◌, ℕ, ◌+◌, ◌-◌, ◌*◌, ◌≤◌, min, Bool, true, false, List, [], ◌∷◌, ◌++◌, length, take, drop, Ok, Err, Result, sym, refl, ap, ◌∙◌, subst, mul-le-mul_right, arith}
use denote.Ref.{Bor}
use Rattle.std.proofs.lemmas.List.Edits.{length-remove}
use Rattle.std.proofs.lemmas.List.Elements.{length_all_zip}
use Rattle.std.proofs.lemmas.List.{length-append, length_push, take-append-drop}
use Rattle.std.specs.List.{remove, AllZip}
use Rattle.files.proofs.Writes.{length_lines}
use Rattle.files.specs.Bytes.{two}
use Rattle.files.specs.Directory.{lines_of}
use Rattle.machines.specs.Kind.{Kind, Rules}
use Rattle.rows.specs.Checks.{Check, KeptIfRefused, ◌before◌, all_stored, growable, has_line, has_room, long_enough, no_start, places, right_directory, right_line, right_lines, wiped}
use Rattle.rows.specs.Listing.{RowOf}
use Rattle.rows.specs.Standing.{standing}
use Rattle.rows.specs.declared.fault.FolderFault.{FolderFault}
use Rattle.rows.proofs.Rows.{places_fit}
use Rattle.judge.specs.Verdicts.{Judged, SafeHolds, WitnessLeft, judge_checks}
use Rattle.judge.specs.declared.verdict.Verdict.{Verdict}
use Rattle.folder.specs.Calls.{ClosedUp, Entered, Grown, GrownBy, KeptBehind, Ruled, Struck, TakenIn}
use Rattle.ledger.specs.declared.call.Answer.{Answer}
use Rattle.ledger.specs.declared.call.Answer.TheVariants.{Changed, Grew, Ruled as Ruling}
use Rattle.ledger.specs.declared.call.Call.{Call}
use Rattle.ledger.specs.declared.call.Deed.{Deed}
use Rattle.ledger.specs.declared.call.Deed.TheVariants.{Enter, TakeIn, Strike, Grow, Judge}
use Rattle.ledger.specs.Ledger.{Called, Does, State, lent, returned, state}
use Rattle.ledger.proofs.Parts.{answered_part, front_length, logged_part, same_rows}

-- a call that is turned down leaves memory as it was
kept_adding : {A : Type 0} (w n' : ℕ) (m m' : List ℕ) (r : Result A FolderFault) → KeptBehind w n' m m' r → KeptIfRefused r m m'
kept_adding w n' m m' (Ok a) h = tt
kept_adding w n' m m' (Err e) h = h

kept_striking : (w n' : ℕ) (m m' : List ℕ) (r : Result Unit FolderFault) → ClosedUp w n' m m' r → KeptIfRefused r m m'
kept_striking w n' m m' (Ok a) h = tt
kept_striking w n' m m' (Err e) h = h

-- as many rows as there are places for
fits : (w memory n m : ℕ) → n + m ≤ places w memory → (i : ℕ) → i ≡ n + m → i * w ≤ memory
fits w memory n m h i e = subst (λ q. q * w ≤ memory) (sym e) (places_fit (n + m) w memory h)

-- the first n of some bytes, where n are asked for or all there are
asked_length : (n asked : ℕ) (bytes : List ℕ) → n ≡ min asked (length bytes) → length (take (n - 0) bytes) ≡ min asked (length bytes)
asked_length n asked bytes e = front_length n bytes (omega (arith, e)) ∙ e

asked_wiped : {A : Type 0} (n asked : ℕ) (bytes part : List ℕ) (r : Result A FolderFault) → n ≡ min asked (length bytes) → part ≡ wiped r (take (n - 0) bytes)
    → part ++ drop (n - 0) bytes ≡ returned asked bytes (wiped r (lent asked bytes))
asked_wiped n asked bytes part r e h =
    let same : n - 0 ≡ min asked (length bytes) = omega (arith, e) in
    ap (λ q. q ++ drop (n - 0) bytes) h ∙ ap (λ i. wiped r (take i bytes) ++ drop i bytes) same

-- n rows stood in mem, and call c was played on the first len bytes of it; strip and witness held s and t
module _ (k : Kind) (u : Rules) (c : Call) (n len : ℕ) (mem s t : List ℕ) (asked : len ≡ min c.memory (length mem)) where
  abbrev w : ℕ
  w = k.width

  abbrev part : List ℕ
  part = take (len - 0) mem

  abbrev before' : List (List ℕ)
  before' = standing w n part

  abbrev rows : List (List ℕ)
  rows = standing w n mem

  within : len ≤ length mem
  within = omega (arith, asked)

  -- what a deed does, as the ledger says it
  does : (d : Deed) (a : Answer) (b b' : State) → c.deed ≡ d → Does k u len c.strip c.witness d a b b' → Called k u (length mem) c a b b'
  does d a b b' is h = subst (λ q. Does k u (min c.memory (length mem)) c.strip c.witness q a b b') (sym is) (subst (λ m. Does k u m c.strip c.witness d a b b') asked h)

  -- the call left n' rows, and x in the bytes that it had
  module _ (n' : ℕ) (x : List ℕ) (kept : length x ≡ length part) where
    abbrev after : List (List ℕ)
    after = standing w n' x

    abbrev now' : List (List ℕ)
    now' = standing w n' (x ++ drop (len - 0) mem)

    pub entered : (line : Bor (List ℕ)) (r : Result Unit FolderFault) → c.deed ≡ Enter line → KeptBehind w n' part x r → Entered k u (length part) line.now before' r after
        → Called k u (length mem) c (Changed r) (state rows s t) (state now' s t)
    entered line r is behind h =
        let told =
        logged_part w n len mem within n' x kept (λ m ls. right_line u line.now before has_room w m (length ls) 1) (λ ls _ ls'. (row : List ℕ) × RowOf u line.now row × (ls' ≡ ls ++ row ∷ [])) r
        (λ a p d. fits w (length part) (length before') 1 p.1.1 (length after) (ap length d.2 ∙ length_push before' d.0))
        (kept_adding w n' part x r behind) h
        in does (Enter line) (Changed r) (state rows s t) (state now' s t) is (told, refl, refl)

    pub taken_in : (file : Bor (List ℕ)) (r : Result Unit FolderFault) → c.deed ≡ TakeIn file → KeptBehind w n' part x r → TakenIn k u (length part) file.now before' r after
        → Called k u (length mem) c (Changed r) (state rows s t) (state now' s t)
    taken_in file r is behind h =
        let told =
        logged_part w n len mem within n' x kept (λ m ls. right_directory file.now before right_lines u file.now before has_room w m (length ls) (two file.now 0))
        (λ ls _ ls'. (added : List (List ℕ)) × AllZip (RowOf u) (lines_of file.now) added × (ls' ≡ ls ++ added)) r
        (λ a p d.
        fits w (length part) (length before') (two file.now 0) p.1.1.1 (length after)
        (ap length d.2 ∙ length-append before' d.0 ∙ ap (λ i. length before' + i) (sym (length_all_zip (RowOf u) (lines_of file.now) d.0 d.1) ∙ length_lines (two file.now 0) 0 file.now)))
        (kept_adding w n' part x r behind) h
        in does (TakeIn file) (Changed r) (state rows s t) (state now' s t) is (told, refl, refl)

    pub struck : (number : ℕ) (r : Result Unit FolderFault) → c.deed ≡ Strike number → ClosedUp w n' part x r → Struck w (length part) number before' r after
        → Called k u (length mem) c (Changed r) (state rows s t) (state now' s t)
    struck number r is behind h =
        let told =
        logged_part w n len mem within n' x kept (λ m ls. has_line (length ls) number) (λ ls _ ls'. ls' ≡ remove ls number) r
        (λ a p d.
        let fewer : length after ≤ length before' = omega (arith, ap length d, length-remove before' number p.1) in
        let le : length after * w ≤ length before' * w = mul-le-mul_right w fewer in
        omega (arith, p.0))
        (kept_striking w n' part x r behind) h
        in does (Strike number) (Changed r) (state rows s t) (state now' s t) is (told, refl, refl)

    abbrev to_grow : ℕ → ℕ → List (List ℕ) → Check
    to_grow strip m ls = long_enough w strip before all_stored u ls before no_start k u ls before has_room w m (length ls) 1 before growable k u ls

    by_one : (strip : ℕ) (a : Bool) → (length before' * w ≤ length part) × (to_grow strip (length part) before').Passes → GrownBy k u before' a after → length after * w ≤ length part
    by_one strip true p d = fits w (length part) (length before') 1 p.1.1.1.1.0 (length after) (ap length d.2 ∙ length_push before' d.0)
    by_one strip false p d = subst (λ q. length q * w ≤ length part) (sym d.1) p.0

    -- sl bytes of the strip were lent, and hold s' after
    pub grown : (sl : ℕ) (s' : List ℕ) (r : Result Bool FolderFault) → c.deed ≡ Grow → sl ≡ min c.strip (length s) → s' ≡ wiped r (take (sl - 0) s) → KeptBehind w n' part x r
        → Grown k u (length part) (length (take (sl - 0) s)) before' r after
        → Called k u (length mem) c (Grew r) (state rows s t) (state now' (s' ++ drop (sl - 0) s) t)
    grown sl s' r is wide strip behind h =
        let told = logged_part w n len mem within n' x kept (to_grow (length (take (sl - 0) s))) (GrownBy k u) r (by_one (length (take (sl - 0) s))) (kept_adding w n' part x r behind) h in
        does Grow (Grew r) (state rows s t) (state now' (s' ++ drop (sl - 0) s) t) is
        (subst (λ o. Grown k u len o rows r now') (asked_length sl c.strip s wide) told, asked_wiped sl c.strip s s' r wide strip, refl)

  -- the witness speaks of the same rows
  shown : (strip witness : ℕ) (r : Result Verdict FolderFault) (v v' : List ℕ) → Ruled k u (length part) strip witness before' r → WitnessLeft k u before' r v v' → WitnessLeft k u rows r v v'
  shown strip witness (Ok a) v v' told h = subst (λ ls. WitnessLeft k u ls (Ok a) v v') (same_rows w n len mem within told.0.0) h
  shown strip witness (Err e) v v' told h = h

  -- sl bytes of the strip and tl of the witness were lent, and hold s' and t' after
  pub ruled : (sl tl : ℕ) (s' t' : List ℕ) (r : Result Verdict FolderFault) → c.deed ≡ Judge → sl ≡ min c.strip (length s) → tl ≡ min c.witness (length t) → s' ≡ wiped r (take (sl - 0) s)
      → WitnessLeft k u before' r (take (tl - 0) t) t' → SafeHolds u r → Ruled k u (length part) (length (take (sl - 0) s)) (length (take (tl - 0) t)) before' r
      → Called k u (length mem) c (Ruling r) (state rows s t) (state (standing w n (part ++ drop (len - 0) mem)) (s' ++ drop (sl - 0) s) (t' ++ drop (tl - 0) t))
  ruled sl tl s' t' r is wide wider strip witness safe h =
      let told = answered_part w n len mem within (λ m ls. judge_checks k u ls (length (take (sl - 0) s)) (length (take (tl - 0) t))) (Judged k u) r h in
      let told' = subst (λ o. Ruled k u len (length (take (sl - 0) s)) o rows r) (asked_length tl c.witness t wider) told in
      let lent' : tl - 0 ≡ min c.witness (length t) = omega (arith, wider) in
      let left = subst (λ i. WitnessLeft k u rows r (take i t) t') lent' (shown (length (take (sl - 0) s)) (length (take (tl - 0) t)) r (take (tl - 0) t) t' h witness) in
      does Judge (Ruling r) (state rows s t) (state (standing w n (part ++ drop (len - 0) mem)) (s' ++ drop (sl - 0) s) (t' ++ drop (tl - 0) t)) is (
        subst (λ o. Ruled k u len o (min c.witness (length t)) rows r) (asked_length sl c.strip s wide) told',
        safe,
        ap (standing w n) (take-append-drop (len - 0) mem),
        asked_wiped sl c.strip s s' r wide strip,
        (t', left, ap (λ i. t' ++ drop i t) lent'),
      )
