-- A call on the first bytes of memory, and what it says of the rows in all of it.
use Rattle.std.proofs.Common.{◌≡◌, ℕ, ◌-◌, ◌*◌, ◌≤◌, List, ◌++◌, length, take, drop, Ok, Err, Result, sym, ap, ◌∙◌, subst, inl, inr, append_assoc, arith}
use Rattle.std.proofs.lemmas.List.{length-take-le, take-append-drop}
use Rattle.rows.specs.Checks.{Answered, Check, KeptIfRefused, ◌before◌, holds_rows}
use Rattle.rows.specs.Standing.{standing}
use Rattle.rows.specs.declared.fault.FolderFault.{FolderFault}
use Rattle.rows.proofs.Rows.{standing_front, standing_length}
use Rattle.folder.specs.Calls.{Logged}

-- what lies past the rows does not count
standing_past : (w n : ℕ) (x y : List ℕ) → n * w ≤ length x → standing w n (x ++ y) ≡ standing w n x
standing_past w n x y h =
    let p = take (n * w) x in
    let d = drop (n * w) x in
    let l : length p ≡ n * w = length-take-le (n * w) x h in
    let e : x ≡ p ++ d = sym (take-append-drop (n * w) x) in
    ap (λ q. standing w n (q ++ y)) e ∙ ap (standing w n) (append_assoc p d y) ∙ standing_front w n p (d ++ y) l ∙ sym (ap (standing w n) e ∙ standing_front w n p d l)

-- the first len bytes of bs, as the checker writes them
pub front_length : (len : ℕ) (bs : List ℕ) → len ≤ length bs → length (take (len - 0) bs) ≡ len
front_length len bs h = length-take-le (len - 0) bs (omega arith) ∙ omega arith

-- n rows stood in mem, and a call on its first len bytes left x there
module _ (w n len : ℕ) (mem : List ℕ) (within : len ≤ length mem) where
  abbrev part : List ℕ
  part = take (len - 0) mem

  abbrev before' : List (List ℕ)
  before' = standing w n part

  abbrev rows : List (List ℕ)
  rows = standing w n mem

  same_count : length before' ≡ length rows
  same_count = standing_length w n part ∙ sym (standing_length w n mem)

  -- rows that the part holds are those of all memory
  pub same_rows : length before' * w ≤ length part → before' ≡ rows
  same_rows h =
      let l = front_length len mem within in
      let fits : n * w ≤ length part = subst (λ i. i * w ≤ length part) (standing_length w n part) h in
      sym (standing_past w n part (drop (len - 0) mem) fits) ∙ ap (standing w n) (take-append-drop (len - 0) mem)

  passes_at : (rest : ℕ → List (List ℕ) → Check) → (holds_rows w (length before') (length part) before rest (length part) before').Passes
      → (holds_rows w (length rows) len before rest len rows).Passes
  passes_at rest p =
      subst (λ l. (holds_rows w (length rows) l before rest l rows).Passes) (front_length len mem within)
      (subst (λ q. (holds_rows w (length q) (length part) before rest (length part) q).Passes) (same_rows p.0) p)

  fails_at : (rest : ℕ → List (List ℕ) → Check) (e : FolderFault) → (holds_rows w (length before') (length part) before rest (length part) before').Fails e
      → (holds_rows w (length rows) len before rest len rows).Fails e
  fails_at rest e (inl short) =
      inl (subst (λ l. (holds_rows w (length rows) l).Fails e) (front_length len mem within) (subst (λ i. (holds_rows w i (length part)).Fails e) same_count short))
  fails_at rest e (inr (held, f)) =
      let same = same_rows held in
      let l = front_length len mem within in
      inr (subst (λ m. length rows * w ≤ m) l (subst (λ q. length q * w ≤ length part) same held), subst (λ m. (rest m rows).Fails e) l (subst (λ q. (rest (length part) q).Fails e) same f))

  pub answered_part : {A : Type 0} (rest : ℕ → List (List ℕ) → Check) (D : List (List ℕ) → A → Type 0) (r : Result A FolderFault)
      → Answered (holds_rows w (length before') (length part) before rest (length part) before') (D before') r
      → Answered (holds_rows w (length rows) len before rest len rows) (D rows) r
  answered_part rest D (Ok a) (p, d) = (passes_at rest p, subst (λ q. D q a) (same_rows p.0) d)
  answered_part rest D (Err e) f = fails_at rest e f

  module _ (n' : ℕ) (x : List ℕ) (kept : length x ≡ length part) where
    abbrev after : List (List ℕ)
    after = standing w n' x

    all_after : n' * w ≤ length part → standing w n' (x ++ drop (len - 0) mem) ≡ after
    all_after h = standing_past w n' x (drop (len - 0) mem) (subst (λ l. n' * w ≤ l) (sym kept) h)

    pub logged_part : {A : Type 0} (rest : ℕ → List (List ℕ) → Check) (D : List (List ℕ) → A → List (List ℕ) → Type 0) (r : Result A FolderFault)
        → ((a : A) (p : (holds_rows w (length before') (length part) before rest (length part) before').Passes) → D before' a after → length after * w ≤ length part)
        → KeptIfRefused r part x
        → Logged (holds_rows w (length before') (length part) before rest (length part) before') (D before') before' r after
        → Logged (holds_rows w (length rows) len before rest len rows) (D rows) rows r (standing w n' (x ++ drop (len - 0) mem))
    logged_part rest D (Ok a) fits behind (p, d) =
        let room : n' * w ≤ length part = subst (λ i. i * w ≤ length part) (standing_length w n' x) (fits a p d) in
        (passes_at rest p, subst (λ q. D rows a q) (sym (all_after room)) (subst (λ q. D q a after) (same_rows p.0) d))
    logged_part rest D (Err e) fits behind (f, same) =
        let count : n' ≡ n = sym (standing_length w n' x) ∙ ap length same ∙ standing_length w n part in
        (fails_at rest e f, ap (λ q. standing w n' (q ++ drop (len - 0) mem)) behind ∙ ap (standing w n') (take-append-drop (len - 0) mem) ∙ ap (λ i. standing w i mem) count)
