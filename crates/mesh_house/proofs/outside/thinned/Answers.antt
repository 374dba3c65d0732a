use Rattle.std.proofs.Common.{rules}
use Rattle.std.proofs.lemmas.Fn.{filter_same}
use Rattle.mesh_house.specs.Outside.{stays}
use Rattle.mesh_house.proofs.outside.thinned.Goals as goal

pub returns : goal.returns
returns g c = filter_same _ (stays g.T.Keyed.order g.T.Keyed.key c.args.keys.now) _ (λ x b f' k. search rules) _ _ c.retain.ensures.filtered
