-- The newest own message of a queue, as a search from its newest end finds it.
use Rattle.std.proofs.Common.{◌≡◌, ℕ, Bool, true, false, cond, ◌&&◌, eqb, List, [], ◌∷◌, map, reverse, Some, None, Option, refl, ap, ◌∙◌}
use Rattle.std.specs.Option.{option_or, option_map}
use Rattle.std.specs.List.{find}
use Rattle.std.proofs.lemmas.List.{reverse-append}
use Rattle.std.proofs.lemmas.List.Folds.{find-append}
use Rattle.machines.specs.Message.{Message, newest}

map_or : {X Y : Type 0} (f : X → Y) (b : Bool) (o : Option X) (x : X) → option_map f (option_or o (cond b (Some x) None)) ≡ option_or (option_map f o) (cond b (Some (f x)) None)
map_or f b (Some y) x = refl
map_or f true None x = refl
map_or f false None x = refl

pub newest_found : {M : Type 0} (means : M → Message) (x : ℕ) (q : List M) → option_map (λ m. (means m).value) (find (λ m. (means m).own && eqb (means m).variable x) (reverse q)) ≡ newest x (map means q)
newest_found means x [] = refl
newest_found {M} means x (m ∷ q) =
    let test = λ (m : M). (means m).own && eqb (means m).variable x in
    let value = λ (m : M). (means m).value in
    ap (λ l. option_map value (find test l)) (reverse-append (m ∷ []) q)
    ∙ ap (option_map value) (find-append test (reverse q) (m ∷ []))
    ∙ map_or value (test m) (find test (reverse q)) m
    ∙ ap (λ o. option_or o (cond (test m) (Some (value m)) None)) (newest_found means x q)
