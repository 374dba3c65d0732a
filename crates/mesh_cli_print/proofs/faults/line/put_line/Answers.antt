use Rattle.mesh_cli_print.proofs.faults.Joined.{six}
use Rattle.mesh_cli_print.proofs.faults.line.put_line.Goals as goal

pub returns : goal.returns
returns c = six c.put-4.result _ _ _ _ _ _ _ _ _ _ _ _ _ c.in_ok-put.ensures c.in_ok-put-2.ensures c.in_ok-put_number.ensures c.in_ok-put-3.ensures c.in_ok-put_kind.ensures c.put-4.ensures
