use Rattle.std.proofs.Common.{Err, ap, ◌∙◌}
use Rattle.mesh_house.specs.Memory.{memory_world}
use Rattle.mesh_layer.specs.declared.faults.ShowFault.{ShowFault}
use Rattle.mesh_cli.proofs.demo.Playing.{not_counted, tells}
use Rattle.mesh_cli.proofs.demo.play.counted.Goals as goal

pub returns-in-Err-Dangling : goal.returns-in-Err-Dangling
returns-in-Err-Dangling c = not_counted (memory_world c.args.house.now) c.in-Err-Dangling.object _ _ c.in_ok-view.ensures
    (c.show.ensures.dangling c.in-Err-Dangling.object (c.in-Err-Dangling.is ∙ ap (λ (f : ShowFault). Err f) c.in-Err-Dangling.field-0-is)
    (memory_world c.args.house.now) (tells c.args.house.now c.look.ensures)) c.ended-in-Err-Dangling.ensures
