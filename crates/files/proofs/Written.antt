-- A file that is written from lines is right, and has those lines.
use Rattle.std.proofs.Common.{◌≡◌, ℕ, ◌+◌, ◌*◌, ◌/◌, ◌%◌, ◌≤◌, List, [], ◌∷◌, ◌++◌, length, get_or, drop, None, sym, refl, ap, ◌∙◌, arith, le-ltb}
use Rattle.std.proofs.lemmas.List.{append_assoc, length-append, length-drop, get_or-append-add, take_at, drop_at, drop-drop}
use Rattle.std.proofs.lemmas.Bool.{cond-false}
use Rattle.std.specs.List.{flat_map}
use Rattle.files.specs.Bytes.{two}
use Rattle.files.specs.Directory.{walk, dir_fault, line_of, lines_from, lines_of}
use Rattle.files.specs.Writer.{two_bytes, pairs_of, list_file}
use Rattle.files.proofs.Walks.{walk_end, walk_good}

-- two bytes that are written give their number
two_written : (front rest : List ℕ) (n place : ℕ) → length front ≡ place → two (front ++ (two_bytes n ++ rest)) place ≡ n
two_written front rest n place e =
    let a = get_or-append-add front (two_bytes n ++ rest) 0 0 in
    let b = get_or-append-add front (two_bytes n ++ rest) 1 0 in
    let p : length front + 0 ≡ place = omega arith in
    let q : length front + 1 ≡ place + 1 = omega arith in
    let c : get_or (front ++ (two_bytes n ++ rest)) place 0 ≡ n / 256 = cc in
    let d : get_or (front ++ (two_bytes n ++ rest)) (place + 1) 0 ≡ n % 256 = cc in
    omega arith

pub length_pairs : (due : ℕ) (ls : List (List ℕ)) → length (pairs_of due ls) ≡ 4 * length ls
unfolding pairs_of
length_pairs due [] = refl
length_pairs due (l ∷ ls) = let e = length_pairs (due + length l) ls in omega arith

-- behind the front of a file stand the pairs of lines, and at an offset the lines
record Stands (front rest bs : List ℕ) (place due : ℕ) (ls : List (List ℕ)) : Type 0 where
  file : bs ≡ front ++ (pairs_of due ls ++ rest)
  before : length front ≡ place
  within : due ≤ length bs
  lines : drop due bs ≡ flat_map (λ l. l) ls

stands_next : {front rest bs : List ℕ} {place due : ℕ} {l : List ℕ} {ls : List (List ℕ)} → Stands front rest bs place due (l ∷ ls) →
    Stands (front ++ (two_bytes due ++ two_bytes (length l))) rest bs (place + 4) (due + length l) ls
unfolding pairs_of
stands_next {front} {rest} {bs} {place} {due} {l} {ls} s =
    let n : length bs ≡ due + length (l ++ flat_map (λ k. k) ls) = let a = length-drop due bs in let b = ap length s.lines in let w = s.within in omega arith in
    record {
      file = s.file ∙ sym (append_assoc front (two_bytes due ++ two_bytes (length l)) (pairs_of (due + length l) ls ++ rest));
      before = simp length-append (let b = s.before in omega arith);
      within = let a = length-append l (flat_map (λ k. k) ls) in omega arith;
      lines = sym (drop-drop (length l) due bs) ∙ ap (drop (length l)) s.lines ∙ drop_at l (flat_map (λ k. k) ls) (length l) refl;
    }

walk_written : (ls : List (List ℕ)) (front rest bs : List ℕ) (place due i : ℕ) → place ≡ 2 + 4 * i → Stands front rest bs place due ls →
    (walk (length ls) place due bs ≡ None) × (lines_from (length ls) i bs ≡ ls)
unfolding lines_from pairs_of
walk_written [] front rest bs place due i e s =
    let a = length-drop due bs in
    let b = ap length s.lines in
    let w = s.within in
    (walk_end place due bs (omega arith), refl)
walk_written (l ∷ ls) front rest bs place due i e s =
    let o : two bs place ≡ due = ap (λ x. two x place) s.file ∙ two_written front (two_bytes (length l) ++ (pairs_of (due + length l) ls ++ rest)) due place s.before in
    let g : bs ≡ (front ++ two_bytes due) ++ (two_bytes (length l) ++ (pairs_of (due + length l) ls ++ rest)) =
    s.file ∙ sym (append_assoc front (two_bytes due) (two_bytes (length l) ++ (pairs_of (due + length l) ls ++ rest))) in
    let b : length (front ++ two_bytes due) ≡ place + 2 = simp length-append (let b = s.before in omega arith) in
    let m : two bs (place + 2) ≡ length l = ap (λ x. two x (place + 2)) g ∙ two_written (front ++ two_bytes due) (pairs_of (due + length l) ls ++ rest) (length l) (place + 2) b in
    let w = walk_written ls (front ++ (two_bytes due ++ two_bytes (length l))) rest bs (place + 4) (due + length l) (i + 1) (omega arith) (stands_next s) in
    let t = take_at l (flat_map (λ k. k) ls) (length l) refl in
    let h : line_of bs i ≡ l = (let d = s.lines in cc) in
    (walk_good (length ls) place due bs o ∙ ap (λ n. walk (length ls) (place + 4) (due + n) bs) m ∙ w.0, (let v = w.1 in cc))

pub written_read : (bs : List ℕ) (ls : List (List ℕ)) → bs ≡ list_file ls → length ls ≤ 1024 → (dir_fault bs ≡ None) × (lines_of bs ≡ ls)
written_read bs ls e h =
    let rest = flat_map (λ l. l) ls in
    let pairs = pairs_of (2 + 4 * length ls) ls in
    let n : two bs 0 ≡ length ls = ap (λ x. two x 0) e ∙ two_written [] (pairs ++ rest) (length ls) 0 refl in
    let p : length (two_bytes (length ls) ++ pairs) ≡ 2 + 4 * length ls = let a = length_pairs (2 + 4 * length ls) ls in omega arith in
    let b : length bs ≡ 2 + 4 * length ls + length rest = ap length e ∙ length-append (two_bytes (length ls) ++ pairs) rest ∙ ap (λ m. m + length rest) p in
    let s : Stands (two_bytes (length ls)) rest bs 2 (2 + 4 * length ls) ls = record {
      file = e;
      before = refl;
      within = omega arith;
      lines = ap (drop (2 + 4 * length ls)) e ∙ drop_at (two_bytes (length ls) ++ pairs) rest (2 + 4 * length ls) p;
    } in
    let w = walk_written ls (two_bytes (length ls)) rest bs 2 (2 + 4 * length ls) 0 refl s in (
      cond-false _ _ _ (le-ltb (length bs) 2 (omega arith))
          ∙ cond-false _ _ _ (le-ltb 1024 (two bs 0) (omega arith))
          ∙ cond-false _ _ _ (le-ltb (length bs) (2 + 4 * two bs 0) (omega arith))
          ∙ ap (λ m. walk m 2 (2 + 4 * m) bs) n
          ∙ w.0,
      ap (λ m. lines_from m 0 bs) n ∙ w.1,
    )
