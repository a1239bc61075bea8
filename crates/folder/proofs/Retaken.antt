-- A file that was written out is taken in again.
use Rattle.std.proofs.Common.{◌≡◌, ℕ, suc, ◌+◌, ◌<◌, List, [], ◌∷◌, map, length, get_or, drop, Some, None, Ok, Err, Result, sym, refl, ap, ◌∙◌, subst, inl, inr, zero-mul, arith}
use Rattle.std.proofs.lemmas.List.{get_or-map, length-map, take-append-drop}
use Rattle.std.specs.List.{AllZip}
use Rattle.files.specs.Bytes.{two}
use Rattle.files.specs.Directory.{dir_fault, line_of, lines_of}
use Rattle.files.specs.declared.list_fault.LineFault.{LineFault}
use Rattle.files.specs.declared.list_fault.LineFault.TheVariants.{Byte, Early}
use Rattle.files.proofs.Writes.{length_lines}
use Rattle.machines.specs.Kind.{Kind, Rules, IsLine, LineAnswer}
use Rattle.rows.specs.Checks.{Answered, places}
use Rattle.rows.specs.Cover.{AllStorable}
use Rattle.rows.specs.Listing.{RowOf, file_of}
use Rattle.rows.specs.declared.fault.FolderFault.{FolderFault}
use Rattle.listing.specs.Listing.{ReadsBack, Written, list_checks}
use Rattle.folder.specs.Calls.{Retaken, TakenAgain, TakenIn}
use Rattle.folder.proofs.Adding.{line_at}

-- the rows of the lines of storable rows are those rows
same_again : (u : Rules) (ls rows : List (List ℕ)) → AllStorable u ls → AllZip (RowOf u) (map u.line_of ls) rows → rows ≡ ls
same_again u [] [] all h = refl
same_again u [] (r ∷ rows) all h = absurd h
same_again u (a ∷ ls) [] all h = absurd h
same_again u (a ∷ ls) (r ∷ rows) all h =
    ap (λ q. r ∷ q) (same_again u ls rows (λ i l. all (suc i) (omega arith)) h.1) ∙ ap (λ q. q ∷ ls) (sym (h.0.2 a (all 0 (omega arith)) refl))

-- a line is not wrong
not_wrong : (u : Rules) (l : List ℕ) (f : LineFault) → IsLine u l → LineAnswer u l (Some f) → ⊥
not_wrong u l (Byte i) line h = h.2 (drop (i + 1) l, subst (IsLine u) (sym (take-append-drop (i + 1) l)) line)
not_wrong u l (Early n) line h = h.2 line

module _ (k : Kind) (u : Rules) (ls : List (List ℕ)) (all : AllStorable u ls) (right : dir_fault (file_of u ls) ≡ None) (lines : lines_of (file_of u ls) ≡ map u.line_of ls) where
  abbrev file : List ℕ
  file = file_of u ls

  count : two file 0 ≡ length ls
  count = sym (length_lines (two file 0) 0 file) ∙ ap length lines ∙ length-map ls u.line_of

  is_line : (i : ℕ) → i < two file 0 → IsLine u (line_of file i)
  is_line i h =
      let c = count in
      let within : i < length ls = omega arith in
      let first : 0 + i ≡ i = omega arith in
      let at : line_of file i ≡ u.line_of (get_or ls i []) =
      sym (line_at (two file 0) 0 i file h ∙ ap (line_of file) first) ∙ ap (λ q. get_or q i []) lines ∙ get_or-map u.line_of ls i [] [] within
      in (get_or ls i [], (all i within, at))

  pub taken_again : (memory : ℕ) (r : Result Unit FolderFault) (ls' : List (List ℕ)) → TakenIn k u memory file [] r ls' → TakenAgain k ls memory r ls'
  taken_again memory (Ok x) ls' (p, (rows, each, same)) = same ∙ same_again u ls rows all (subst (λ q. AllZip (RowOf u) q rows) lines each)
  taken_again memory (Err e) ls' (inl (short, f), same) = absurd (omega (arith, short, zero-mul k.width))
  taken_again memory (Err e) ls' (inr (held, inl (at, wrong, f)), same) = absurd (none_some at (sym right ∙ wrong))
    where
      none_some : (at : ℕ) → None ≡ Some at → ⊥
      none_some at h = grind arith
  taken_again memory (Err e) ls' (inr (held, inr (ok, inl (i, f, h, before, wrong, g))), same) = absurd (not_wrong u (line_of file i) f (is_line i h) wrong)
  taken_again memory (Err e) ls' (inr (held, inr (ok, inr (good, (full, f)))), same) = (subst (λ n. places k.width memory < 0 + n) count full, f)

pub retaken : (k : Kind) (u : Rules) (ls : List (List ℕ)) (place place' : List ℕ) (r : Result ℕ FolderFault) → Answered (list_checks u ls (length place)) (Written u ls place place') r → ReadsBack u ls r → Retaken k u ls r
retaken k u ls place place' (Ok size) told back = taken_again k u ls told.0.0 back.0 back.1
retaken k u ls place place' (Err e) told back = tt
