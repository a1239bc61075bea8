-- What a list file's lines become, and why a file is not taken in.
use Rattle.std.proofs.Common.{◌≡◌, ℕ, ◌<◌, List, [], ◌∷◌, ◌++◌, map, MatchOption, Some, None, Option, Err, sym, refl, ap, ◌∙◌, subst}
use Rattle.files.specs.Bytes.{two}
use Rattle.files.specs.Directory.{line_of, lines_of}
use Rattle.files.specs.Reader.{Opened}
use Rattle.files.specs.Writer.{list_file}
use Rattle.files.specs.declared.list_fault.ListFault.{ListFault}
use Rattle.files.specs.declared.list_fault.ListFault.TheVariants.{Directory, Line}
use Rattle.machines.specs.Kind.{Rules, LineAnswer}
use Rattle.rows.specs.Checks.{AllLines, right_directory, right_lines}
use Rattle.rows.specs.declared.fault.FolderFault.TheVariants.{List as Listed}
use Rattle.std.specs.List.{AllZip}
use Rattle.rows.specs.Listing.{RowOf, file_of}
use Rattle.folder.specs.Taking.{FaultAt, FirstFault}

pub directory_fails : (file : List ℕ) (f : ListFault) → Opened file (Err f) → (right_directory file).Fails (Listed f)
directory_fails file (Directory at) h = (at, h, refl)
directory_fails file (Line i f) h = absurd h

-- what holds of the reader's bytes and count holds of the file
pub of_file : (P : List ℕ → ℕ → Type 0) (file bytes : List ℕ) (n : ℕ) → bytes ≡ file → n ≡ two file 0 → P bytes n → P file (two file 0)
of_file P file bytes n eb en h = subst (P file) en (subst (λ b. P b n) eb h)

pub lines_fail : (u : Rules) (file : List ℕ) (f : ListFault) → FirstFault u file (two file 0) (Some f) → (right_lines u file).Fails (Listed f)
lines_fail u file (Directory at) h = absurd h
lines_fail u file (Line i f) h = (i, f, h.0, h.1, h.2, refl)

-- the search for the fault of the lowest wrong line
pub first_found : (u : Rules) (file : List ℕ) (n : ℕ) (r : Option ListFault)
    → MatchOption r ((j : ℕ) → j < n → FaultAt u file j None) (λ f. (i : ℕ) × (i < n) × FaultAt u file i (Some f) × ((j : ℕ) → j < i → FaultAt u file j None))
    → FirstFault u file n r
first_found u file n None h = h
first_found u file n (Some (Directory at)) (i, within, here, before') = absurd here
first_found u file n (Some (Line j f)) (i, within, here, before') =
    (subst (λ q. q < n) (sym here.0) within, subst (AllLines u file) (sym here.0) before', subst (λ q. LineAnswer u (line_of file q) (Some f)) (sym here.0) here.1)

-- the lines of the rows of lines are those lines
pub lines_again : (u : Rules) (ls rows : List (List ℕ)) → AllZip (RowOf u) ls rows → map u.line_of rows ≡ ls
lines_again u [] [] h = refl
lines_again u [] (r ∷ rows) h = absurd h
lines_again u (l ∷ ls) [] h = absurd h
lines_again u (l ∷ ls) (r ∷ rows) h = ap (λ q. u.line_of r ∷ q) (lines_again u ls rows h.1) ∙ ap (λ q. q ∷ ls) (sym h.0.1)

-- a right file whose rows come to stand where nothing stood is written from them
pub file_rewritten : (u : Rules) (file : List ℕ) (ls rows after : List (List ℕ)) → file ≡ list_file (lines_of file) → AllZip (RowOf u) (lines_of file) rows → after ≡ ls ++ rows → ls ≡ [] → file_of u after ≡ file
file_rewritten u file ls rows after again each e empty =
    ap (file_of u) (e ∙ ap (λ q. q ++ rows) empty) ∙ ap list_file (lines_again u (lines_of file) rows each) ∙ sym again
