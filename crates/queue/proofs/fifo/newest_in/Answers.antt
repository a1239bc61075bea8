use Rattle.std.proofs.Common.{◌≡◌, ◌&&◌, eqb, Some, None, Option, MatchOption, IsSomeAnd, sym, refl, ap, ◌∙◌, rules, tests}
use Rattle.std.specs.Option.{option_map}
use Rattle.std.proofs.lemmas.Iterator.Adapters.{YieldsList-from_rev_slice}
use Rattle.std.proofs.lemmas.Iterator.Search.{find_from_yields_List}
use Rattle.queue.proofs.Newest.{newest_found}
use Rattle.queue.proofs.fifo.newest_in.Goals as goal

mapped : {A B : Type 0} (v : A → B) (P : A → B → Type 0) (o : Option A) (r : Option B) → MatchOption o (r ≡ None) (λ x. IsSomeAnd r (P x)) → ((x : A) (y : B) → P x y → y ≡ v x) → r ≡ option_map v o
mapped v P (Some x) (Some y) h f = ap Some (f x y h)
mapped v P (Some x) None h f = absurd h
mapped v P None r h f = h

option_map-map : {A B C : Type 0} (f : A → B) (h : B → C) (o : Option A) → option_map h (option_map f o) ≡ option_map (λ x. h (f x)) o
option_map-map f h (Some x) = refl
option_map-map f h None = refl

pub returns : goal.returns
returns g c =
    let means = g.M.Message.kind.means in
    let x = c.args.variable in
    let q = c.args.queued.now in
    let first = find_from_yields_List (λ m. (means m).own && eqb (means m).variable x) _ _ c.find.result c.find.ensures.ran (YieldsList-from_rev_slice q (search rules)) (λ m b f k. search (rules, tests)) in
    mapped (λ m. (means m.now).value) _ c.find.result c.map.result c.map.ensures.cases (λ m y h. search rules)
    ∙ sym (option_map-map (λ m. m.now) (λ m. (means m).value) c.find.result)
    ∙ ap (option_map (λ m. (means m).value)) first
    ∙ newest_found means x q
