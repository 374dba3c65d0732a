use Rattle.mesh_law_trace.proofs.Traced.{traced}
use Rattle.mesh_law_trace.proofs.laws.traced_columns_decide_rows.Goals as goal

pub returns : goal.returns
returns c = λ a b d e v query columns agree clock. traced a b clock d e v query columns agree
