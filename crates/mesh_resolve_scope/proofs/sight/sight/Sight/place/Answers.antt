use Rattle.std.proofs.Common.{ap, ◌∙◌}
use Rattle.mesh_resolve_scope.specs.sight.Sole.{sole, places_from}
use Rattle.mesh_resolve_scope.proofs.sight.Soles.{place_within}
use Rattle.mesh_resolve_scope.proofs.sight.sight.Sight.place.Goals as goal

pub returns-clause-within : goal.returns-clause-within
returns-clause-within c =
    place_within c.args.name.now c.args.self.now.from c.copied.result
    (c.copied.ensures ∙ c.get.ensures.value ∙ c.self.invariant.by_item c.args.name.now ∙ ap (λ s. sole (places_from 0 c.args.name.now s.from)) c.self.view_is)
