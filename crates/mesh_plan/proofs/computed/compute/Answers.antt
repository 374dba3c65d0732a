use Rattle.std.proofs.Common.{◌≡◌, sym, subst, w64, to_z, of_z}
use Rattle.mesh_spec_model.specs.Horizons.{Shows}
use Rattle.mesh_plan.proofs.Whole.{second_whole}
use Rattle.mesh_plan.proofs.computed.compute.Goals as goal

pub returns-clause-forgets : goal.returns-clause-forgets
returns-clause-forgets c clock shows =
    let second : to_z w64 (of_z w64 c.args.t) ≡ c.args.t = second_whole c.args.t c.ranges.t in
    c.in_ok-forgets.ensures clock (c.in_ok-horizons.ensures.horizons clock (subst (Shows clock) (sym second) shows))
