use Rattle.mesh_house.specs.declared.world.Change.TheVariants.{RecordMarks}
use Rattle.mesh_exec_works.proofs.changes.marks_record.Goals as goal

pub returns : goal.returns
returns c = λ i. RecordMarks ((c.in_ok-object.ensures i).0) ((c.in_ok-object.ensures i).1)
