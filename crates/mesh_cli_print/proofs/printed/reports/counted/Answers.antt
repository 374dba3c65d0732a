use Rattle.mesh_cli_print.proofs.faults.Joined.{line_four}
use Rattle.mesh_cli_print.proofs.printed.reports.counted.Goals as goal

pub returns : goal.returns
returns c = line_four c.args.front.now _ _ _ _ _ _ _ _ _ _ c.from_vec.ensures c.in_ok-out.ensures.items c.in_ok-put.ensures c.in_ok-put-2.ensures c.in_ok-put_number.ensures c.in_ok-put-3.ensures
