use Rattle.mesh_cli_print.proofs.faults.Joined.{four}
use Rattle.mesh_cli_print.proofs.faults.kinds.put_limit.Goals as goal

pub returns : goal.returns
returns c = four c.put_number.result _ _ _ _ _ _ _ _ _ c.in_ok-put.ensures c.in_ok-put-2.ensures c.in_ok-put-3.ensures c.put_number.ensures
