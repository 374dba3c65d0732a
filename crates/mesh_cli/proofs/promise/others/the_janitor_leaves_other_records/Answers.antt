use Rattle.mesh_cli.proofs.promise.Beside.{janitor_recorded}
use Rattle.mesh_cli.proofs.promise.others.the_janitor_leaves_other_records.Goals as goal

pub returns : goal.returns
returns c = λ dir moment old new answer commanded x w told sound name. janitor_recorded x w sound name dir moment old new answer commanded told
