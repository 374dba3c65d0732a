use Rattle.std.proofs.Common.{◌++◌}
use Rattle.std.specs.Prelude.{codes}
use Rattle.mesh_cli_print.specs.faults.Lines.{name_text}
use Rattle.mesh_cli_print.proofs.faults.Joined.{all_put, one_more}
use Rattle.mesh_cli_print.proofs.faults.pieces.put_names.Goals as goal

pub loop-name-preserved : goal.loop-name-preserved
loop-name-preserved c =
    one_more (λ n. codes " " ++ name_text n) c.args.out.now.items c.args.names.now c.loop-name.name-index c.name-item.result _ _ c.loop-name-test.true c.name-item.is c.loop-name.invariant c.in_ok-put_behind_space.ensures

pub returns : goal.returns
returns c = all_put (λ n. codes " " ++ name_text n) c.args.out.now.items c.args.names.now c.loop-name.name-index c.loop-name.out.items c.loop-name-test.false c.loop-name.invariant
