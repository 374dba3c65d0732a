use Rattle.mesh_spec_model.proofs.Listed.{one_each, with_their_parents, at_their_places}
use Rattle.mesh_spec_model.proofs.laws.projects_are_closed_under_parents.Goals as goal

pub returns : goal.returns
returns c = record { one_each = one_each; closed = with_their_parents; places = at_their_places }
