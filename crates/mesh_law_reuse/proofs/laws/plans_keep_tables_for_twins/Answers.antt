use Rattle.mesh_law_reuse.proofs.Puts.{are_put}
use Rattle.mesh_law_reuse.proofs.Putting.{shares_after}
use Rattle.mesh_law_reuse.proofs.laws.plans_keep_tables_for_twins.Goals as goal

pub returns-clause-put : goal.returns-clause-put
returns-clause-put c clock before nodes restate plan t well proper is some among = are_put clock before nodes restate plan t well proper is some among

pub returns-clause-shared : goal.returns-clause-shared
returns-clause-shared c clock before after nodes restate plan t well proper is shared well_after put = shares_after clock before after nodes restate plan t well proper is shared well_after put
