use Rattle.mesh_law_reading.proofs.Named.{named_parents}
use Rattle.mesh_law_reading.proofs.laws.named_models_are_parents.Goals as goal

pub returns : goal.returns
returns c = named_parents
