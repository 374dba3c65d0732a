use Rattle.mesh_cli_print.proofs.faults.Joined.{four}
use Rattle.mesh_cli_print.proofs.faults.kinds.put_clash.Goals as goal

pub returns : goal.returns
returns c = four c.put_fingerprint-2.result _ _ _ _ _ _ _ _ _ c.in_ok-put.ensures c.in_ok-put_fingerprint.ensures c.in_ok-put-2.ensures c.put_fingerprint-2.ensures
