use Rattle.mesh_spec_promise.proofs.Views.{object_shown}
use Rattle.mesh_spec_promise.proofs.laws.objects_up_to_date_show_rows_from_scratch.Goals as goal

pub returns : goal.returns
returns c = λ x w clock sound now s h. object_shown x w clock sound now s h
