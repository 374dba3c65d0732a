use Rattle.mesh_spec_model.proofs.Least.{least, its_own}
use Rattle.mesh_spec_model.proofs.laws.horizons_go_by_ancestors.Goals as goal

pub returns : goal.returns
returns c = record { incremental = least; other = its_own }
