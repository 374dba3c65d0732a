use Rattle.mesh_law_promise.proofs.isolation.Janitor.{janitor_records}
use Rattle.mesh_law_promise.proofs.isolation.laws.the_janitor_leaves_other_records.Goals as goal

pub returns : goal.returns
returns c = janitor_records
