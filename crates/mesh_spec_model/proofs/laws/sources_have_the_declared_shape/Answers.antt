use Rattle.mesh_spec_model.proofs.Cut.{shaped, wide}
use Rattle.mesh_spec_model.proofs.laws.sources_have_the_declared_shape.Goals as goal

pub returns : goal.returns
returns c = record { types = shaped; cells = wide }
