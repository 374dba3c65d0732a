use Rattle.mesh_law_reuse.proofs.Single.{single}
use Rattle.mesh_law_reuse.proofs.laws.no_table_is_given_twice.Goals as goal

pub returns : goal.returns
returns c clock b nodes restate plan well proper is shared p q h k share = single clock b nodes restate plan well proper is shared p q h k share
