-- One step of the walk through a directory.
use Rattle.std.proofs.Common.{◌≡◌, ℕ, zero, suc, ◌+◌, ◌*◌, ◌<◌, ◌≤◌, Bool, true, false, eqb, List, length, Ok, Err, is_ok, Result, Some, None, Option, refl, sym, ap, ◌∙◌, arith}
use Rattle.std.proofs.lemmas.Bool.{eqb-true, eq-eqb}
use Rattle.std.proofs.lemmas.Bool.Decides.{nat_tests}
use Rattle.std.specs.Result.{result_err}
use Rattle.files.specs.Bytes.{two}
use Rattle.files.specs.Directory.{walk, dir_fault}
use Rattle.files.specs.Sections.{must}

some_none : {n : ℕ} → ◌≡◌ {A = Option ℕ} (Some n) None → ⊥
some_none e = let z : ◌≡◌ {A = ℕ} 0 1 = cc in omega arith

-- where a test leaves no fault, it passed, and there is none after it
must_none : (test : Bool) (place : ℕ) (after : Option ℕ) → must test place after ≡ None → (test ≡ true) × (after ≡ None)
must_none true place after h = (refl, h)
must_none false place after h = absurd (some_none h)

-- where there is no fault, there is a value
pub ok_from_none : {X : Type 0} (r : Result X ℕ) → result_err r ≡ None → is_ok r ≡ true
ok_from_none (Ok x) h = refl
ok_from_none (Err e) h = absurd (some_none h)

-- a pair, and what comes after it
pub walk_more : (k place due : ℕ) (bs : List ℕ) → walk (suc k) place due bs ≡ must (eqb (two bs place) due) place (walk k (place + 4) (due + two bs (place + 2)) bs)
unfolding walk
walk_more k place due bs = refl

-- after the last pair the file's end is due
pub walk_done : (place due : ℕ) (bs : List ℕ) → walk 0 place due bs ≡ must (eqb due (length bs)) (length bs) None
unfolding walk
walk_done place due bs = refl

pub walk_good : (k place due : ℕ) (bs : List ℕ) → two bs place ≡ due → walk (suc k) place due bs ≡ walk k (place + 4) (due + two bs (place + 2)) bs
walk_good k place due bs h = walk_more k place due bs ∙ ap (λ b. must b place (walk k (place + 4) (due + two bs (place + 2)) bs)) (eq-eqb (two bs place) due h)

pub walk_end : (place due : ℕ) (bs : List ℕ) → due ≡ length bs → walk 0 place due bs ≡ None
walk_end place due bs h = walk_done place due bs ∙ ap (λ b. must b (length bs) None) (eq-eqb due (length bs) h)

-- a right pair, and what is right after it
pub walk_none : (k place due : ℕ) (bs : List ℕ) → walk (suc k) place due bs ≡ None → (two bs place ≡ due) × (walk k (place + 4) (due + two bs (place + 2)) bs ≡ None)
walk_none k place due bs h =
    let p = must_none _ _ _ (sym (walk_more k place due bs) ∙ h) in (eqb-true _ _ p.0, p.1)

pub walk_last : (place due : ℕ) (bs : List ℕ) → walk 0 place due bs ≡ None → due ≡ length bs
walk_last place due bs h = eqb-true _ _ (must_none _ _ _ (sym (walk_done place due bs) ∙ h)).0

-- in a right directory the offset that is due lies within the file
pub walk_due : (k place due : ℕ) (bs : List ℕ) → walk k place due bs ≡ None → due ≤ length bs
walk_due zero place due bs h = let e = walk_last place due bs h in omega arith
walk_due (suc k) place due bs h =
    let d = walk_due k (place + 4) (due + two bs (place + 2)) bs (walk_none k place due bs h).1 in omega arith

-- and so does each part
pub walk_within : (k place due : ℕ) (bs : List ℕ) (i : ℕ) → walk k place due bs ≡ None → i < k → two bs (place + 4 * i) + two bs (place + 4 * i + 2) ≤ length bs
walk_within zero place due bs i h l = absurd (omega arith)
walk_within (suc k) place due bs zero h l =
    let w = walk_none k place due bs h in
    let d = walk_due k (place + 4) (due + two bs (place + 2)) bs w.1 in
    let e : place + 4 * 0 ≡ place = omega arith in
    let f : two bs (place + 4 * 0) + two bs (place + 4 * 0 + 2) ≡ two bs place + two bs (place + 2) = ap (λ n. two bs n + two bs (n + 2)) e in
    omega (arith, f, w.0)
walk_within (suc k) place due bs (suc i) h l =
    let w = walk_within k (place + 4) (due + two bs (place + 2)) bs i (walk_none k place due bs h).1 (omega arith) in
    let e : place + 4 * suc i ≡ place + 4 + 4 * i = omega arith in
    let f : two bs (place + 4 * suc i) + two bs (place + 4 * suc i + 2) ≡ two bs (place + 4 + 4 * i) + two bs (place + 4 + 4 * i + 2) = ap (λ n. two bs n + two bs (n + 2)) e in
    omega (arith, f, w)

-- a right file has its whole directory, of which each pair is right
pub right_walk : (bs : List ℕ) → dir_fault bs ≡ None → (two bs 0 ≤ 1024) × (2 + 4 * two bs 0 ≤ length bs) × (walk (two bs 0) 2 (2 + 4 * two bs 0) bs ≡ None)
right_walk bs h = (grind (arith, nat_tests), grind (arith, nat_tests), grind (arith, nat_tests))

-- each line of a right file lies within it
pub line_within : (bs : List ℕ) (i : ℕ) → dir_fault bs ≡ None → i < two bs 0 → two bs (2 + 4 * i) + two bs (2 + 4 * i + 2) ≤ length bs
line_within bs i h l = walk_within (two bs 0) 2 (2 + 4 * two bs 0) bs i (right_walk bs h).2 l
