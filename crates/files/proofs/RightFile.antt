-- What holds of a file that has no fault.
use Rattle.std.proofs.Common.{◌≡◌, ℕ, suc, ◌/◌, ◌≤◌, Bool, true, false, cond, List, [], ◌∷◌, length, get_or, drop, Some, None, Option, refl, ap, ◌∙◌, arith}
use Rattle.std.proofs.lemmas.List.{length-drop}
use Rattle.std.proofs.lemmas.Bool.{and_from}
use Rattle.std.proofs.lemmas.Bool.Decides.{nat_tests}
use Rattle.std.proofs.lemmas.Grind.{common_steps}
use Rattle.std.specs.Option.{option_map, option_or}
use Rattle.files.specs.Bytes.{two}
use Rattle.std.specs.List.{cons_option, filter_map}
use Rattle.files.specs.Pieces.{checked, decoded, every, pieces, section_fault}
use Rattle.files.proofs.Decoding.{length_pieces}
use Rattle.files.specs.ReadSystem.{patterns_fault, system_fault, transitions_fault}
use Rattle.files.specs.Sections.{pairs_fault, section}
use Rattle.files.specs.Sizes.{counts_fault, one_to, right_sizes, sizes_fault}
use Rattle.files.specs.declared.system_fault.SystemFault.TheVariants.{Sections, Size, Transition, Pattern}

-- with no fault each count is 1 to 16
pub counts_right : (place : ℕ) (ns : List ℕ) → counts_fault place ns ≡ None → every (one_to 16) ns ≡ true
counts_right place [] h = refl
counts_right place (n ∷ ns) h = let r : counts_fault place ns ≡ None → every (one_to 16) ns ≡ true = counts_right place ns in grind (arith, common_steps, nat_tests)

four : (a b c d : Option ℕ) → option_or (option_map Sections a) (option_or (option_map Size b) (option_or (option_map Transition c) (option_map Pattern d))) ≡ None → (a ≡ None) × (b ≡ None) × (c ≡ None) × (d ≡ None)
four (Some n) b c d h = (cc, cc, cc, cc)
four None (Some n) c d h = (refl, cc, cc, cc)
four None None (Some n) d h = (refl, refl, cc, cc)
four None None None (Some n) h = (refl, refl, refl, cc)
four None None None None h = (refl, refl, refl, refl)

-- no part of a right file has a fault
pub right_parts : (bs : List ℕ) → system_fault bs ≡ None → (pairs_fault bs ≡ None) × (sizes_fault (section 0 bs) ≡ None) × (transitions_fault bs ≡ None) × (patterns_fault bs ≡ None)
right_parts bs h = four (pairs_fault bs) (sizes_fault (section 0 bs)) (transitions_fault bs) (patterns_fault bs) h

-- section one has its least length
pub first_length : (bs : List ℕ) → pairs_fault bs ≡ None → 4 ≤ two bs 2
first_length bs h = grind (arith, nat_tests)

pub sizes_right : (one : List ℕ) → sizes_fault one ≡ None → right_sizes (drop 3 one) (get_or one 1 0) (get_or one 2 0) ≡ true
sizes_right one h =
    let counts : counts_fault 15 (drop 3 one) ≡ None = grind (arith, nat_tests) in
    let each = counts_right 15 (drop 3 one) counts in
    let n = length-drop 3 one in
    grind (arith, nat_tests)

kept_few : {X : Type 0} (o : Option X) (xs : List X) → length (cons_option o xs) ≤ suc (length xs)
kept_few None xs = omega arith
kept_few (Some x) xs = omega arith

decoded_few : {X : Type 0} (decode : List ℕ → Option X) (ps : List (List ℕ)) → length (filter_map decode ps) ≤ length ps
decoded_few decode [] = omega arith
decoded_few decode (p ∷ ps) = omega (arith, kept_few (decode p) (filter_map decode ps), decoded_few decode ps)

-- a right section says not too much, whichever decoder reads it
pub built_few : {X : Type 0} (decode decode' : List ℕ → Option X) (width width' most base : ℕ) (bs bs' : List ℕ) (xs : List X) → section_fault decode width most base bs ≡ None → width' ≡ width → bs' ≡ bs → xs ≡ decoded decode' width' (length bs' / width') bs' → length xs ≤ most
built_few decode decode' width width' most base bs bs' xs h p q e =
    let few : length bs / width ≤ most = grind (arith, nat_tests) in
    let same : length bs' / width' ≡ length bs / width = cc in
    let ps = pieces width' (length bs' / width') bs' in
    omega (arith, ap length e, decoded_few decode' ps, length_pieces width' (length bs' / width') bs')

every_kept : {X : Type 0} (test : X → Bool) (x : X) (b : Bool) (xs : List X) → test x ≡ b → every test xs ≡ true → every test (cons_option (cond b (Some x) None) xs) ≡ true
every_kept test x true xs e h = and_from (test x) (every test xs) e h
every_kept test x false xs e h = h

every_checked : {X : Type 0} (test : X → Bool) (o : Option X) (xs : List X) → every test xs ≡ true → every test (cons_option (checked test o) xs) ≡ true
every_checked test None xs h = h
every_checked test (Some x) xs h = every_kept test x (test x) xs refl h

-- what is decoded passes the test by which the decoder takes it
decoded_pass : {X : Type 0} (test : X → Bool) (raw : List ℕ → Option X) (ps : List (List ℕ)) → every test (filter_map (λ p. checked test (raw p)) ps) ≡ true
decoded_pass test raw [] = refl
decoded_pass test raw (p ∷ ps) = every_checked test (raw p) (filter_map (λ q. checked test (raw q)) ps) (decoded_pass test raw ps)

-- the same of the list that was built, where the test goes by state counts
pub built_pass : {X : Type 0} (test : List ℕ → X → Bool) (raw : List ℕ → Option X) (width n : ℕ) (bs states states' : List ℕ) (xs : List X) → states' ≡ states → xs ≡ decoded (λ ps. checked (test states) (raw ps)) width n bs → every (test states') xs ≡ true
built_pass test raw width n bs states states' xs p e =
    ap (λ ss. every (test ss) xs) p ∙ ap (every (test states)) e ∙ decoded_pass (test states) raw (pieces width n bs)
