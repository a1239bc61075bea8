use Rattle.std.proofs.Common.{◌≡◌, List, [], ◌∷◌, length, replicate, refl, ap, ◌∙◌, subst, rules}
use Rattle.std.specs.List.{FoldsTo}
use Rattle.bench.proofs.begin.clear.Goals as goal

filled : {P X : Type 0} (R : P → X → P → Type 0) (z : X) (p q : P) (xs : List X) → ((x : X) (j : P) → R p x j → (x ≡ z) × (j ≡ p)) → FoldsTo R p xs q → xs ≡ replicate (length xs) z
filled R z p q [] f h = refl
filled R z p q (x ∷ xs) f h =
    let e = f x h.0 h.1 in
    ap (λ y. y ∷ xs) e.0 ∙ ap (λ ys. z ∷ ys) (filled R z p q xs f (subst (λ j. FoldsTo R j xs q) e.1 h.2))

pub returns : goal.returns
returns g c =
    let z = g.M.Message.kind.zero in
    let ran = c.fill_with.ensures.ran in
    filled _ z _ ran.0 c.fill_with.new.self (λ x j h. search rules) ran.1 ∙ ap (λ n. replicate n z) c.fill_with.ensures.len
