use Rattle.std.proofs.Common.{[]}
use Rattle.mesh_cli_print.proofs.faults.Joined.{line_five}
use Rattle.mesh_cli_print.proofs.printed.reports.ingested_line.Goals as goal

pub returns : goal.returns
returns c = line_five [] _ _ _ _ _ _ _ _ _ _ _ _ c.from_vec.ensures c.new-out.ensures.items c.in_ok-put.ensures c.in_ok-put_name.ensures c.in_ok-put-2.ensures c.in_ok-put_number.ensures c.in_ok-put-3.ensures
