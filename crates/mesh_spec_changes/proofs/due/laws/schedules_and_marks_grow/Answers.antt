use Rattle.mesh_spec_changes.proofs.due.Later.{schedules_grow, all_marks_grow, marks_stay}
use Rattle.mesh_spec_changes.proofs.due.laws.schedules_and_marks_grow.Goals as goal

pub returns : goal.returns
returns c = record {
  schedules = λ t u clock later le a b m crons v. schedules_grow t u clock later le a b m crons v;
  marks = λ t u clock later le a b m crons. all_marks_grow t u clock later le a b m crons;
  apart = λ t u v first second third le more a b d m crons other same. other (marks_stay t u v first second third le more a b d m crons same);
}
