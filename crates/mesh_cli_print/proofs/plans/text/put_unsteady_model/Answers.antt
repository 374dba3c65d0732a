use Rattle.mesh_cli_print.proofs.faults.Joined.{five}
use Rattle.mesh_cli_print.proofs.plans.text.put_unsteady_model.Goals as goal

pub returns : goal.returns
returns c = five c.put-3.result _ _ _ _ _ _ _ _ _ _ _ c.in_ok-put.ensures c.in_ok-put_name.ensures c.in_ok-put-2.ensures c.in_ok-put_name-2.ensures c.put-3.ensures
