use Rattle.mesh_spec_changes.proofs.due.Ordered.{units_are_due, due_iff, due_in_order}
use Rattle.mesh_spec_changes.proofs.due.laws.due_units_are_in_order.Goals as goal

pub returns : goal.returns
returns c = record {
  units = units_are_due;
  each = λ clock b forgets p. due_iff clock b forgets p;
  order = due_in_order;
}
