use Rattle.mesh_spec_query.proofs.Keys.{of_group}
use Rattle.mesh_spec_query.proofs.Nodes.{of_key}
use Rattle.mesh_spec_query.proofs.laws.keys_keep_their_value_in_a_group.Goals as goal

pub returns : goal.returns
returns c = record { each_row = of_group; key_values = of_key }
