-- The pieces of a section, as `chunks_exact` gives them.
use Rattle.std.proofs.Common.{◌≡◌, ℕ, zero, suc, ◌+◌, ◌/◌, ◌<◌, List, [], ◌∷◌, ◌++◌, length, take, drop, refl, sym, ap, ◌∙◌, arith, add-one}
use Rattle.std.proofs.Math.Nat.{add-div_left, div-eq_of_lt}
use Rattle.std.proofs.lemmas.List.{length-append, take_at, drop_at}
use Rattle.std.proofs.lemmas.Iterator.{YieldsList}
use Rattle.std.proofs.lemmas.Iterator.Splits.{YieldsList-from_shown_while}
use Rattle.std.specs.Iterator.{Yields}
use Rattle.std.specs.Slice.Iter.{chunks_exact_rest, chunks_exact_size, chunks_exact_steps}
use denote.Ref.{Bor}
use Rattle.files.specs.Pieces.{pieces}

pub length_pieces : (width n : ℕ) (bs : List ℕ) → length (pieces width n bs) ≡ n
length_pieces width zero bs = refl
length_pieces width (suc n) bs = ap suc (length_pieces width n (drop width bs))

abbrev pub pieces_of : ℕ → List ℕ → List (List ℕ)
pieces_of width bs = pieces width (length bs / width) bs

pieces_none : (width : ℕ) (bs : List ℕ) → length bs < width → length (pieces_of width bs) ≡ 0
pieces_none width bs h = length_pieces width (length bs / width) bs ∙ div-eq_of_lt h

pieces_more : (width : ℕ) (bs x rest : List ℕ) → 0 < width → bs ≡ x ++ rest → length x ≡ width → pieces_of width bs ≡ x ∷ pieces_of width rest
pieces_more width bs x rest h e l =
    let n : length bs ≡ width + length rest = ap length e ∙ length-append x rest ∙ ap (λ k. k + length rest) l in
    let more : length bs / width ≡ suc (length rest / width) = ap (λ k. k / width) n ∙ add-div_left (length rest) h ∙ add-one (length rest / width) in
    let front : take width bs ≡ x = ap (take width) e ∙ take_at x rest width l in
    let back : drop width bs ≡ rest = ap (drop width) e ∙ drop_at x rest width l in
    cc

pub YieldsList-from_chunks : {s : _} (width : ℕ) (bs : List ℕ) → 0 < width → chunks_exact_size s ≡ width → chunks_exact_rest s ≡ bs → YieldsList chunks_exact_steps (λ x. x.now) s (pieces_of width bs)
YieldsList-from_chunks {s} width bs h size rest =
    rw (sym size, sym rest)
    (YieldsList-from_shown_while chunks_exact_steps (λ x. x.now) (λ t. pieces_of (chunks_exact_size t) (chunks_exact_rest t)) (λ t. 0 < chunks_exact_size t)
    (λ t u w k. pieces_none (chunks_exact_size t) (chunks_exact_rest t) k.1.0)
    (λ t x u w k. (
      omega arith,
      pieces_more (chunks_exact_size t) (chunks_exact_rest t) x.now (chunks_exact_rest u) w k.1.0 k.1.1 ∙ ap (λ n. x.now ∷ pieces_of n (chunks_exact_rest u)) (sym k.0),
    ))
    s (omega arith))

-- each chunk has the width
pub chunks_wide : (s t : _) (xs : List (Bor (List ℕ))) → Yields chunks_exact_steps s xs t → chunks_exact_size t ≡ chunks_exact_size s
chunks_wide s t [] y = ap chunks_exact_size (sym y)
chunks_wide s t (x ∷ xs) (j, step, y) = chunks_wide j t xs y ∙ step.0
