use Rattle.std.proofs.Common.{sym, ap, subst, ◌<◌, ◌∙◌, length}
use Rattle.std.specs.Option.{IfSome}
use Rattle.mesh_resolve_selects.specs.outputs.Commons.{place_named}
use Rattle.mesh_resolve_selects.proofs.outputs.Places.{place_within}
use Rattle.mesh_resolve_selects.proofs.outputs.commons.Commons.place.Goals as goal

pub returns-clause-within : goal.returns-clause-within
returns-clause-within c =
    subst (λ o. IfSome o (λ i. i < length c.args.self.now))
    (sym (c.copied.ensures ∙ c.get.ensures.value ∙ c.self.invariant c.args.name.now ∙ ap (place_named c.args.name.now) c.self.view_is))
    (place_within c.args.name.now c.args.self.now)
