use Rattle.mesh_law_query.proofs.Lists.{each}
use Rattle.mesh_law_query.proofs.Projects.{have_crons}
use Rattle.mesh_spec_model.specs.Closures.{closures}
use Rattle.mesh_spec_model.specs.Horizons.{HasCrons}
use Rattle.mesh_plan_due.proofs.OneMoment.{one_again, one_due, one_length}
use Rattle.mesh_plan_due.proofs.laws.moments_decide_dues.Goals as goal

pub returns : goal.returns
returns c = record {
  long = λ t clock other s o nodes h. one_length t clock other s o (closures nodes) (each HasCrons (closures nodes) (have_crons nodes h));
  again = λ t clock other s o nodes entries b r h. one_again t clock other s o b r nodes (closures nodes) entries (each HasCrons (closures nodes) (have_crons nodes h));
  dues = λ t clock other s o nodes entries b forgets h. one_due t clock other s o b forgets 0 nodes (closures nodes) entries (each HasCrons (closures nodes) (have_crons nodes h));
}
