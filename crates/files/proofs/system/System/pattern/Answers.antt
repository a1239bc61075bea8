use Rattle.std.proofs.Common.{◌≡◌, vec_items, slice_get, rules}
use Rattle.std.proofs.lemmas.Option.{IfSome_then, gets}
use Rattle.files.specs.Pattern.{fits}
use Rattle.files.specs.Program.{program}
use Rattle.files.proofs.Invariant.{every_found, fitting_from, sized_from}
use Rattle.files.proofs.system.System.pattern.Goals as goal

pub returns-clause-fitting : goal.returns-clause-fitting
returns-clause-fitting c =
    let s = c.args.self.now in
    let sized = sized_from (vec_items s.states) s.variables s.values s.sized in
    let found : c.copied.result ≡ slice_get (vec_items s.patterns) c.args.number = search (rules, gets) in
    rw found (IfSome_then (slice_get (vec_items s.patterns) c.args.number) (every_found (fits (vec_items s.states)) (vec_items s.patterns) c.args.number s.fitting) (λ q h. fitting_from (program s) q sized.0 h))
