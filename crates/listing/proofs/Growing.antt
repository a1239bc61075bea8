-- A list file that grows line by line.
use Rattle.std.proofs.Common.{◌≡◌, ℕ, zero, suc, ◌+◌, ◌*◌, ◌<◌, ◌≤◌, List, [], ◌∷◌, ◌++◌, map, length, get_or, take, sym, ap, ◌∙◌, arith}
use Rattle.std.proofs.lemmas.List.{get_or-map, flat_map_more, length-append, length-map, length-take-le, take_all, take_more}
use Rattle.files.proofs.Written.{length_pairs}
use Rattle.files.specs.Writer.{pairs_of, two_bytes}
use Rattle.machines.specs.Kind.{Rules}
use Rattle.rows.specs.Listing.{file_of}
use Rattle.listing.specs.Laid.{directory_of, first_lines, laid, text_of}
use Rattle.listing.proofs.Laid.{laid_none}

pub no_pairs : (at offset : ℕ) (place : List ℕ) → laid at (pairs_of offset []) place ≡ place
unfolding pairs_of
no_pairs at offset place = laid_none at place

pairs_push : (offset : ℕ) (ls : List (List ℕ)) (l : List ℕ) → pairs_of offset (ls ++ l ∷ []) ≡ pairs_of offset ls ++ (two_bytes (offset + length (text_of ls)) ++ two_bytes (length l))
unfolding pairs_of
pairs_push offset [] l = ap (λ n. two_bytes n ++ two_bytes (length l)) (omega arith)
pairs_push offset (k ∷ ls) l =
    ap (λ x. two_bytes offset ++ (two_bytes (length k) ++ x)) (pairs_push (offset + length k) ls l)
    ∙ ap (λ n. two_bytes offset ++ (two_bytes (length k) ++ (pairs_of (offset + length k) ls ++ (two_bytes n ++ two_bytes (length l))))) (let e = length-append k (text_of ls) in omega arith)

-- the first lines are no longer than all
text_within : (i : ℕ) (ls : List (List ℕ)) → length (text_of (take i ls)) ≤ length (text_of ls)
text_within zero ls = omega arith
text_within (suc i) [] = omega arith
text_within (suc i) (l ∷ ls) =
    let a = length-append l (text_of (take i ls)) in
    let b = length-append l (text_of ls) in
    let h = text_within i ls in
    omega arith

module _ (u : Rules) (ls : List (List ℕ)) where
  pub length_directory : length (directory_of (map u.line_of ls)) ≡ 2 + 4 * length ls
  length_directory =
      let p = length_pairs (2 + 4 * length (map u.line_of ls)) (map u.line_of ls) in
      let n = length-map ls u.line_of in
      omega arith

  pub length_file : length (file_of u ls) ≡ 2 + 4 * length ls + length (text_of (map u.line_of ls))
  length_file =
      length-append (directory_of (map u.line_of ls)) (text_of (map u.line_of ls)) ∙ ap (λ n. n + length (text_of (map u.line_of ls))) length_directory

  pub length_first : (i : ℕ) → i ≤ length ls → length (first_lines u ls i) ≡ i
  length_first i h = length-take-le i (map u.line_of ls) (let n = length-map ls u.line_of in omega arith)

  pub lines_all : (i : ℕ) → length ls ≤ i → first_lines u ls i ≡ map u.line_of ls
  lines_all i h = take_all i (map u.line_of ls) (let n = length-map ls u.line_of in omega arith)

  -- row i is a: its line is the next
  module _ (i : ℕ) (a : List ℕ) (within : i < length ls) (here : a ≡ get_or ls i []) where
    lines_more : first_lines u ls (i + 1) ≡ first_lines u ls i ++ u.line_of a ∷ []
    lines_more =
        take_more (map u.line_of ls) i [] (let n = length-map ls u.line_of in omega arith)
        ∙ ap (λ l. first_lines u ls i ++ l ∷ []) (get_or-map u.line_of ls i [] [] within ∙ ap u.line_of (sym here))

    pub text_more : text_of (first_lines u ls (i + 1)) ≡ text_of (first_lines u ls i) ++ u.line_of a
    text_more = ap text_of lines_more ∙ sym (flat_map_more (λ (l : List ℕ). l) [] (first_lines u ls i) (u.line_of a))

    pub length_more : length (text_of (first_lines u ls (i + 1))) ≡ length (text_of (first_lines u ls i)) + length (u.line_of a)
    length_more = ap length text_more ∙ length-append (text_of (first_lines u ls i)) (u.line_of a)

    pub text_fits : length (text_of (first_lines u ls i)) + length (u.line_of a) ≤ length (text_of (map u.line_of ls))
    text_fits = let e = length_more in let h = text_within (i + 1) (map u.line_of ls) in omega arith

    pub pairs_more : (offset : ℕ) → pairs_of offset (first_lines u ls (i + 1)) ≡ pairs_of offset (first_lines u ls i) ++ (two_bytes (offset + length (text_of (first_lines u ls i))) ++ two_bytes (length (u.line_of a)))
    pairs_more offset = ap (pairs_of offset) lines_more ∙ pairs_push offset (first_lines u ls i) (u.line_of a)
