use Rattle.std.proofs.Common.{◌∙◌, ap}
use Rattle.mesh_house.specs.Gone.{settled}
use Rattle.mesh_house.proofs.Settled.{settled_nothing}
use Rattle.mesh_house.proofs.buffered.Buffered.new.Goals as goal

pub returns : goal.returns
returns c = ap (settled c.args.world) c.new.ensures ∙ settled_nothing c.args.world
