use Rattle.std.proofs.Common.{◌++◌}
use Rattle.std.specs.Prelude.{codes}
use Rattle.mesh_cli_print.specs.faults.Lines.{name_text}
use Rattle.mesh_cli_print.proofs.faults.Joined.{six, wrote}
use Rattle.mesh_cli_print.proofs.plans.text.put_difference.Goals as goal

pub returns : goal.returns
returns c =
    wrote c.put-5.result _ _ _ _ (six c.put-5.result _ _ _ _ _ _ _ _ _ _ _ _ _ c.in_ok-put.ensures c.in_ok-put-2.ensures c.in_ok-put_name.ensures c.in_ok-put-3.ensures c.in_ok-put-4.ensures c.put-5.ensures)
    (λ i. c.as_slice.ensures i ++ (codes " " ++ (name_text c.args.d.now.name ++ (codes " " ++ (c.as_slice-2.ensures i ++ codes "\n")))))
