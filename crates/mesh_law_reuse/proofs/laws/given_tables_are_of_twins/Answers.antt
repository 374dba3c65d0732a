use Rattle.mesh_law_reuse.proofs.Given.{given_twins, run_twins}
use Rattle.mesh_law_reuse.proofs.laws.given_tables_are_of_twins.Goals as goal

pub returns-clause-plan : goal.returns-clause-plan
returns-clause-plan c clock b nodes restate plan well proper is shared p h s known share = given_twins clock b nodes restate plan well proper is shared p h s known share

pub returns-clause-run : goal.returns-clause-run
returns-clause-run c clock b plan is shared p h s known share = run_twins clock b plan is shared p h s known share
