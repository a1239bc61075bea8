-- A right file is what the writer makes of its lines.
use Rattle.std.proofs.Common.{◌≡◌, ℕ, zero, suc, ◌+◌, ◌*◌, ◌/◌, ◌%◌, ◌<◌, ◌≤◌, List, ◌++◌, length, get_or, drop, None, sym, refl, ap, ◌∙◌, arith}
use Rattle.std.proofs.lemmas.List.{take-append-drop, length-take-le, length-drop, drop-drop, drop_more, drop_all}
use Rattle.std.specs.List.{flat_map}
use Rattle.files.specs.Bytes.{two}
use Rattle.files.specs.Directory.{walk, dir_fault, line_of, lines_from, lines_of}
use Rattle.files.specs.Writer.{two_bytes, pairs_of, list_file}
use Rattle.files.proofs.Walks.{walk_none, walk_due, walk_last, right_walk}

-- two bytes of a file, written again
two_again : (bs : List ℕ) (i : ℕ) → ((k : ℕ) → get_or bs k 0 < 256) → i + 1 < length bs → drop i bs ≡ two_bytes (two bs i) ++ drop (i + 2) bs
two_again bs i f h =
    let a = f i in
    let b = f (i + 1) in
    let q : two bs i / 256 ≡ get_or bs i 0 = omega arith in
    let r : two bs i % 256 ≡ get_or bs (i + 1) 0 = omega arith in
    let d = drop_more bs i 0 (omega arith) in
    let e = drop_more bs (i + 1) 0 h in
    let n : i + 1 + 1 ≡ i + 2 = omega arith in
    cc

pub length_lines : (k i : ℕ) (bs : List ℕ) → length (lines_from k i bs) ≡ k
unfolding lines_from
length_lines zero i bs = refl
length_lines (suc k) i bs = ap suc (length_lines k (i + 1) bs)

-- a line is as long as its pair says
length_line : (bs : List ℕ) (i : ℕ) → two bs (2 + 4 * i) + two bs (2 + 4 * i + 2) ≤ length bs → length (line_of bs i) ≡ two bs (2 + 4 * i + 2)
length_line bs i h = length-take-le (two bs (2 + 4 * i + 2)) (drop (two bs (2 + 4 * i)) bs) (rw length-drop (omega arith))

-- the pairs, written again
pairs_again : (k i place due : ℕ) (bs : List ℕ) → ((n : ℕ) → get_or bs n 0 < 256) → place ≡ 2 + 4 * i → place + 4 * k ≤ length bs → walk k place due bs ≡ None →
    drop place bs ≡ pairs_of due (lines_from k i bs) ++ drop (place + 4 * k) bs
unfolding lines_from pairs_of
pairs_again zero i place due bs f e h w = ap (λ n. drop n bs) (omega arith)
pairs_again (suc k) i place due bs f e h w =
    let v = walk_none k place due bs w in
    let d = walk_due k (place + 4) (due + two bs (place + 2)) bs v.1 in
    let o : two bs (2 + 4 * i) ≡ due = ap (two bs) (sym e) ∙ v.0 in
    let m : two bs (2 + 4 * i + 2) ≡ two bs (place + 2) = ap (λ n. two bs (n + 2)) (sym e) in
    let l : length (line_of bs i) ≡ two bs (place + 2) = length_line bs i (omega arith) ∙ m in
    let a = two_again bs place f (omega arith) in
    let b = two_again bs (place + 2) f (omega arith) in
    let r = pairs_again k (i + 1) (place + 4) (due + two bs (place + 2)) bs f (omega arith) (omega arith) v.1 in
    let p : place + 2 + 2 ≡ place + 4 = omega arith in
    let q : place + 4 + 4 * k ≡ place + 4 * suc k = omega arith in
    cc

-- the lines, written again
lines_again : (k i place due : ℕ) (bs : List ℕ) → place ≡ 2 + 4 * i → walk k place due bs ≡ None → drop due bs ≡ flat_map (λ l. l) (lines_from k i bs)
unfolding lines_from
lines_again zero i place due bs e w = let h = walk_last place due bs w in drop_all due bs (omega arith)
lines_again (suc k) i place due bs e w =
    let v = walk_none k place due bs w in
    let o : two bs (2 + 4 * i) ≡ due = ap (two bs) (sym e) ∙ v.0 in
    let m : two bs (2 + 4 * i + 2) ≡ two bs (place + 2) = ap (λ n. two bs (n + 2)) (sym e) in
    let r = lines_again k (i + 1) (place + 4) (due + two bs (place + 2)) bs (omega arith) v.1 in
    let s = take-append-drop (two bs (place + 2)) (drop due bs) in
    let t = drop-drop (two bs (place + 2)) due bs in
    cc

pub file_again : (bs : List ℕ) → ((n : ℕ) → get_or bs n 0 < 256) → dir_fault bs ≡ None → bs ≡ list_file (lines_of bs)
file_again bs f h =
    let w = right_walk bs h in
    let n = two bs 0 in
    let c = length_lines n 0 bs in
    let a = two_again bs 0 f (omega arith) in
    let p = pairs_again n 0 2 (2 + 4 * n) bs f refl (omega arith) w.2 in
    let l = lines_again n 0 2 (2 + 4 * n) bs refl w.2 in
    cc
