use Rattle.mesh_exec.proofs.units.Cuts.{run_sorted, sorted_rows}
use Rattle.mesh_exec.proofs.units.laws.sorted_runs_are_cut_to_their_units.Goals as goal

pub returns-clause-unit : goal.returns-clause-unit
returns-clause-unit c = sorted_rows

pub returns-clause-run : goal.returns-clause-run
returns-clause-run c = run_sorted
