use Rattle.mesh_exec_wave.proofs.wave.Models.{unit_rows, whole_rows}
use Rattle.mesh_exec_wave.proofs.wave.laws.jobs_are_of_models.Goals as goal

pub returns-clause-unit : goal.returns-clause-unit
returns-clause-unit c = unit_rows

pub returns-clause-whole : goal.returns-clause-whole
returns-clause-whole c = whole_rows
