use Rattle.mesh_plan_due.proofs.Numbered.{Done}
use Rattle.mesh_plan_due.proofs.marks.add_marks.Given as goal

abbrev pub invariant-loop-rest : goal.invariant-loop-rest
invariant-loop-rest l = Done l.spots l.row l.place l.word l.first l.rest l.made

abbrev pub decreases-loop-rest : goal.decreases-loop-rest
decreases-loop-rest l = l.rest
