-- A row that goes.
use Rattle.std.proofs.Common.{◌≡◌, ℕ, suc, ◌+◌, ◌*◌, ◌≤◌, List, [], ◌∷◌, ◌++◌, length, take, drop, sym, ap, ◌∙◌, append_assoc, append-nil, add-mul, one-mul, arith}
use borrow.Rule.Slice.PartMut.{put_mid}
use lib.Seq.{paste}
use Rattle.std.specs.List.{remove}
use Rattle.std.proofs.lemmas.List.Edits.{take-paste, drop-paste}
use Rattle.std.proofs.lemmas.List.{drop-drop, length-take-le, length-drop, take-append-drop, take_at, drop_at, length-append, length_push}
use Rattle.rows.specs.Standing.{standing, zeros}
use Rattle.rows.proofs.Rows.{standing_append, standing_front, standing_length, standing_one}
use Rattle.folder.proofs.Adding.{one_more}

-- the bytes of a rows, one row and b rows more
pub rows_around : (w a b : ℕ) → (a + suc b) * w ≡ a * w + (w + b * w)
rows_around w a b = add-mul a (suc b) w ∙ ap (λ q. a * w + q) (ap (λ i. i * w) (omega arith) ∙ one_more b w ∙ omega arith)

-- Of the memory m of a + 1 + b rows, row a goes: m1 has the b rows behind it moved forward, and z is written over the last row.
module _ (w a b : ℕ) (m m1 z : List ℕ) (from gap size : ℕ) (from_is : from ≡ a * w) (gap_is : gap ≡ w) (size_is : size ≡ b * w) (room : (a + suc b) * w ≤ length m) (shifted : m1 ≡ paste m from (drop (from + gap) m) size) (zero' : z ≡ zeros w) where
  abbrev end : ℕ
  end = (a + suc b) * w

  moved : m1 ≡ paste m (a * w) (drop (a * w + w) m) (b * w)
  moved =
      shifted ∙ ap (λ i. paste m i (drop (i + gap) m) size) from_is ∙ ap (λ i. paste m (a * w) (drop (a * w + i) m) size) gap_is
      ∙ ap (λ i. paste m (a * w) (drop (a * w + w) m) i) size_is

  ends : end ≡ a * w + (w + b * w)
  ends = rows_around w a b

  abbrev P : List ℕ
  P = take (a * w) m

  abbrev R : List ℕ
  R = take w (drop (a * w) m)

  abbrev B : List ℕ
  B = take (b * w) (drop (a * w + w) m)

  l_p : length P ≡ a * w
  l_p = let e = ends in length-take-le (a * w) m (omega arith)

  l_r : length R ≡ w
  l_r = let e = ends in let d = length-drop (a * w) m in length-take-le w (drop (a * w) m) (omega arith)

  l_b : length B ≡ b * w
  l_b = let e = ends in let d = length-drop (a * w + w) m in length-take-le (b * w) (drop (a * w + w) m) (omega arith)

  was : standing w (a + suc b) m ≡ standing w a P ++ R ∷ standing w b B
  was =
      let tail = drop (a * w + w) m in
      let C = drop (b * w) tail in
      let whole : m ≡ P ++ (R ++ (B ++ C)) =
      sym (take-append-drop (a * w) m)
      ∙ ap (λ l. P ++ l) (sym (take-append-drop w (drop (a * w) m)) ∙ ap (λ l. R ++ l) (drop-drop w (a * w) m ∙ sym (take-append-drop (b * w) tail)))
      in
      ap (λ l. standing w (a + suc b) l) whole ∙ standing_append w a (suc b) P (R ++ (B ++ C)) l_p
      ∙ ap (λ l. standing w a P ++ l)
      (ap (λ q. standing w q (R ++ (B ++ C))) (omega arith) ∙ standing_append w 1 b R (B ++ C) (l_r ∙ sym (one-mul w))
      ∙ ap (λ l. l ++ standing w b (B ++ C)) (ap (λ l. standing w 1 l) (sym (append-nil R)) ∙ standing_one w R [] l_r)
      ∙ ap (λ l. R ∷ l) (standing_front w b B C l_b))

  cut : remove (standing w a P ++ R ∷ standing w b B) a ≡ standing w a P ++ standing w b B
  cut =
      let X = standing w a P in
      let Z = standing w b B in
      let lX : length X ≡ a = standing_length w a P in
      ap (λ l. l ++ drop (suc a) (X ++ R ∷ Z)) (take_at X (R ∷ Z) a lX)
      ∙ ap (λ l. X ++ l) (ap (λ l. drop (suc a) l) (sym (append_assoc X (R ∷ []) Z)) ∙ drop_at (X ++ R ∷ []) Z (suc a) (length_push X R ∙ omega arith))

  module _ (last : ℕ) (len : ℕ) (at : last ≡ a * w + b * w) (wide : len ≡ w) where
    abbrev after : List ℕ
    after = put_mid last len m1 z

    front : take last m1 ≡ P ++ B
    front =
        let e = ends in
        let d = length-drop (a * w + w) m in
        ap (λ l. take last l) moved ∙ ap (λ q. take q (paste m (a * w) (drop (a * w + w) m) (b * w))) at
        ∙ take-paste m (a * w) (drop (a * w + w) m) (b * w) (omega arith) (omega arith)

    back : drop len (drop last m1) ≡ drop end m
    back =
        let e = ends in
        let d = length-drop (a * w + w) m in
        ap (λ l. drop len (drop last l)) moved ∙ ap (λ q. drop len (drop q (paste m (a * w) (drop (a * w + w) m) (b * w)))) at
        ∙ ap (λ l. drop len l) (drop-paste m (a * w) (drop (a * w + w) m) (b * w) (omega arith) (omega arith))
        ∙ drop-drop len (a * w + b * w) m ∙ ap (λ q. drop q m) (omega arith)

    parts : after ≡ P ++ (B ++ (zeros w ++ drop end m))
    parts =
        ap (λ l. l ++ (z ++ drop len (drop last m1))) front ∙ ap (λ l. (P ++ B) ++ (z ++ l)) back ∙ ap (λ l. (P ++ B) ++ (l ++ drop end m)) zero'
        ∙ append_assoc P B (zeros w ++ drop end m)

    pub struck_rows : standing w (a + b) after ≡ remove (standing w (a + suc b) m) a
    struck_rows =
        ap (λ l. standing w (a + b) l) parts ∙ standing_append w a b P (B ++ (zeros w ++ drop end m)) l_p
        ∙ ap (λ l. standing w a P ++ l) (standing_front w b B (zeros w ++ drop end m) l_b)
        ∙ sym (ap (λ l. remove l a) was ∙ cut)

    pub struck_behind : drop ((a + b) * w) after ≡ zeros w ++ drop ((a + b + 1) * w) m
    struck_behind =
        let total : (a + b) * w ≡ a * w + b * w = add-mul a b w in
        let far : end ≡ (a + b + 1) * w = ap (λ q. q * w) (omega arith) in
        ap (λ l. drop ((a + b) * w) l) (parts ∙ sym (append_assoc P B (zeros w ++ drop end m)))
        ∙ drop_at (P ++ B) (zeros w ++ drop end m) ((a + b) * w) (length_both ∙ sym total)
        ∙ ap (λ q. zeros w ++ drop q m) far
      where
        length_both : length (P ++ B) ≡ a * w + b * w
        length_both = length-append P B ∙ (let p = l_p in let q = l_b in omega arith)
