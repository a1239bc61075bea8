-- Rows that come behind those that stand.
use Rattle.std.proofs.Common.{◌≡◌, ℕ, zero, suc, ◌+◌, ◌-◌, ◌*◌, ◌<◌, ◌≤◌, Bool, true, false, List, [], ◌∷◌, ◌++◌, length, get_or, take, drop, MatchBool, sym, refl, ap, ◌∙◌, subst, append_assoc, append-nil, add-mul, one-mul, arith}
use borrow.Rule.Slice.PartMut.{put_mid}
use Rattle.std.proofs.lemmas.List.Elements.{AllZip-get_or, AllZip-push, length_all_zip}
use Rattle.std.proofs.lemmas.List.{drop-drop, length-drop, length-take-le, take-append-drop}
use Rattle.std.proofs.lemmas.Slice.{drop-put_mid}
use Rattle.std.specs.List.{AllZip}
use Rattle.files.specs.Directory.{line_of, lines_from}
use Rattle.files.proofs.Writes.{length_lines}
use Rattle.machines.specs.Kind.{Kind, Rules, IsLine, LineRead, LineUnread}
use Rattle.rows.specs.Checks.{places}
use Rattle.rows.specs.Standing.{standing}
use Rattle.rows.proofs.Rows.{places_fit, standing_append, standing_front, standing_length, standing_one}
use Rattle.rows.specs.Listing.{RowOf}
use Rattle.folder.specs.Answers.{Added}
use Rattle.folder.specs.Taking.{LinesAdded}

-- one row more ends where the next begins
pub one_more : (n w : ℕ) → (n + 1) * w ≡ n * w + w
one_more n w = add-mul n 1 w ∙ ap (λ i. n * w + i) (one-mul w)

-- and where there is a place for it, it fits into memory
pub row_fits : (w n : ℕ) (m : List ℕ) → length (standing w n m) + 1 ≤ places w (length m) → n * w + w ≤ length m
row_fits w n m free = omega (arith, places_fit (n + 1) w (length m) (omega (arith, free, standing_length w n m)), one_more n w)

-- a part that is lent, as the checker writes it
pub part_long : (at w : ℕ) (m : List ℕ) → at + w ≤ length m → length (take (at + w - at) (drop at m)) ≡ w
part_long at w m h = let l = length-drop at m in length-take-le (at + w - at) (drop at m) (omega arith) ∙ omega arith

-- a row is written behind n others
module _ (w n at v : ℕ) (m row : List ℕ) (place : at ≡ n * w) (wide : v ≡ w) (room : at + w ≤ length m) (long : length row ≡ w) where
  abbrev len : ℕ
  len = at + v - at

  pub row_stands : standing w (n + 1) (put_mid at len m row) ≡ standing w n m ++ row ∷ []
  row_stands =
      let p = take (n * w) m in
      let rest = drop len (drop at m) in
      let l : length p ≡ n * w = length-take-le (n * w) m (omega arith) in
      ap (λ i. standing w (n + 1) (take i m ++ (row ++ rest))) place
      ∙ standing_append w n 1 p (row ++ rest) l
      ∙ ap (λ q. standing w n p ++ q) (standing_one w row rest long)
      ∙ ap (λ q. q ++ row ∷ []) (sym (standing_front w n p (drop (n * w) m) l) ∙ ap (λ q. standing w n q) (take-append-drop (n * w) m))

  pub row_kept : drop ((n + 1) * w) (put_mid at len m row) ≡ drop ((n + 1) * w) m
  row_kept = let e = one_more n w in drop-put_mid at len m row ((n + 1) * w) (omega arith) (omega arith) (long ∙ omega arith)

-- a line is read into a place for its row
pub read_done : (k : Kind) (u : Rules) (l was after : List ℕ) (r : Bool) → MatchBool r (LineRead k u l was after) (LineUnread k u l was after) → length was ≡ k.width → IsLine u l → RowOf u l after
read_done k u l was after true h wide line = (h.1, h.2, h.3)
read_done k u l was after false h wide line = absurd (h.0 wide line)

lines_more : (k j : ℕ) (bs : List ℕ) → lines_from (k + 1) j bs ≡ lines_from k j bs ++ line_of bs (j + k) ∷ []
unfolding lines_from
lines_more zero j bs = ap (λ i. line_of bs i ∷ []) (omega arith)
lines_more (suc k) j bs =
    let e : suc k + 1 ≡ suc (k + 1) = omega arith in
    let f : j + 1 + k ≡ j + suc k = omega arith in
    ap (λ i. lines_from i j bs) e ∙ ap (λ q. line_of bs j ∷ q) (lines_more k (j + 1) bs) ∙ ap (λ i. line_of bs j ∷ (lines_from k (j + 1) bs ++ line_of bs i ∷ [])) f

-- line i of a file, among all its lines
pub line_at : (n j i : ℕ) (bs : List ℕ) → i < n → get_or (lines_from n j bs) i [] ≡ line_of bs (j + i)
unfolding lines_from
line_at zero j i bs h = absurd (omega arith)
line_at (suc n) j zero bs h = ap (line_of bs) (omega arith)
line_at (suc n) j (suc i) bs h = line_at n (j + 1) i bs (omega arith) ∙ ap (line_of bs) (omega arith)

module _ (k : Kind) (u : Rules) (file : List ℕ) (n : ℕ) (m : List ℕ) where
  pub added_none : LinesAdded k u file n 0 m m
  unfolding lines_from
  added_none =
      let e : n + 0 ≡ n = omega arith in
      ([], tt, ap (λ i. standing k.width i m) e ∙ sym (append-nil _), refl)

  -- the row of line i at its place
  pub added_more : (i v : ℕ) (l row : List ℕ) → v ≡ k.width → (n + i) * v + v ≤ length l → length row ≡ k.width → RowOf u (line_of file i) row → LinesAdded k u file n i m l
      → LinesAdded k u file n (i + 1) m (put_mid ((n + i) * v) ((n + i) * v + v - (n + i) * v) l row)
  added_more i v l row ev room wide is (rows, each, stand, behind) =
      let w = k.width in
      let at = (n + i) * v in
      let place : at ≡ (n + i) * w = ap (λ q. (n + i) * q) ev in
      let sum : n + (i + 1) ≡ n + i + 1 = omega arith in
      let x = put_mid at (at + v - at) l row in
      let fits : at + w ≤ length l = omega arith in
      let deeper : (z : List ℕ) → drop w (drop ((n + i) * w) z) ≡ drop ((n + i + 1) * w) z = λ z. drop-drop w ((n + i) * w) z ∙ ap (λ q. drop q z) (sym (one_more (n + i) w)) in
      let first : line_of file (0 + i) ≡ line_of file i = ap (line_of file) (omega arith) in (
        rows ++ row ∷ [],
        subst (λ q. AllZip (RowOf u) q (rows ++ row ∷ [])) (sym (lines_more i 0 file ∙ ap (λ q. lines_from i 0 file ++ q ∷ []) first)) (AllZip-push (RowOf u) (lines_from i 0 file) rows (line_of file i) row each is),
        ap (λ q. standing w q x) sum ∙ row_stands w (n + i) at v l row place ev fits wide ∙ ap (λ q. q ++ row ∷ []) stand ∙ append_assoc (standing w n m) rows (row ∷ []),
        ap (λ q. drop (q * w) x) sum ∙ row_kept w (n + i) at v l row place ev fits wide ∙ sym (deeper l) ∙ ap (drop w) behind ∙ deeper m ∙ ap (λ q. drop (q * w) m) (sym sum),
      )

  -- and the lines by their numbers
  pub added_each : (i : ℕ) (m' : List ℕ) → LinesAdded k u file n i m m' → Added k u file n i m m'
  added_each i m' (rows, each, stand, behind) = (
    rows,
    sym (length_all_zip (RowOf u) (lines_from i 0 file) rows each) ∙ length_lines i 0 file,
    λ j h.
        let r = AllZip-get_or (RowOf u) (lines_from i 0 file) rows j [] [] each (omega (arith, length_lines i 0 file)) in
        let first : 0 + j ≡ j = omega arith in
        (r.0, subst (λ l. l ≡ u.line_of (get_or rows j [])) (line_at i 0 j file h ∙ ap (line_of file) first) r.1),
    stand,
    behind,
  )
