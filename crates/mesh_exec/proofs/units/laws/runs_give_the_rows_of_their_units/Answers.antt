use Rattle.mesh_exec.proofs.units.Cuts.{run_rows, unit_rows}
use Rattle.mesh_exec.proofs.units.laws.runs_give_the_rows_of_their_units.Goals as goal

pub returns-clause-unit : goal.returns-clause-unit
returns-clause-unit c = unit_rows

pub returns-clause-run : goal.returns-clause-run
returns-clause-run c = run_rows
