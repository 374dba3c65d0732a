use Rattle.std.proofs.Common.{◌∙◌, Some, ap}
use Rattle.std.specs.Option.{unwrap_or}
use Rattle.mesh_house.specs.House.{Told}
use Rattle.mesh_house.specs.Memory.{memory_world}
use Rattle.mesh_io.specs.Held.{FolderHeld}
use Rattle.mesh_cli.proofs.demo.Playing.{is_demo}
use Rattle.mesh_cli.proofs.demo.demonstration.played.Goals as goal

pub returns : goal.returns
returns g c = is_demo c.args.n _ _ c.in_ok-rest.rest c.headed.result
    (ap (λ (f : FolderHeld). Some f.files) c.new-folder.ensures ∙ ap Some c.in_ok-shop.ensures)
    (ap (λ (t : Told). unwrap_or t.world (memory_world c.new-house.result)) c.new-house.ensures.told)
    c.in_ok-rest.ensures c.headed.ensures
