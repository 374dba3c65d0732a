use Rattle.mesh_spec_model.specs.Closures.{own_of}
use Rattle.mesh_law_reuse.proofs.Staying.{staying_twins}
use Rattle.mesh_law_reuse.proofs.laws.tables_stay_with_twins.Goals as goal

pub returns : goal.returns
returns c old new category h k p q = staying_twins old new category (own_of new.closure).kind h k p q
