use Rattle.mesh_house.specs.declared.world.Change.TheVariants.{RecordMarks, ReplaceRows}
use Rattle.mesh_exec_works.specs.Plain.{model_of}
use Rattle.mesh_exec_works.proofs.Pushed.{two_pushed, whole_written}
use Rattle.mesh_exec_works.proofs.changes.push_written.Goals as goal

pub returns-in_ok-push_made-in-Full : goal.returns-in_ok-push_made-in-Full
returns-in_ok-push_made-in-Full c =
    let m = model_of c.args.node.now c.args.entry.now in
    two_pushed c.args.changes.now (ReplaceRows m.object c.args.rows) (RecordMarks m.object c.in-Whole.marks) _ _ c.replacement.result c.marks_record-in-Full.result c.push_made-in-Full-2.result _ c.in_ok-push_made-in-Full.ensures c.replacement.ensures c.marks_record-in-Full.ensures
    (whole_written m _ _ c.in-Whole.node c.in-Whole.marks c.args.rows c.in-Full.is c.in-Whole.is) c.push_made-in-Full-2.ensures
