-- Events: commands one after another.
use Rattle.std.specs.Prelude.{ℕ, List}
use Rattle.mesh_house.specs.declared.world.World.{World}
use Rattle.mesh_spec_changes.specs.due.Parts.{Parts}
use Rattle.mesh_cli_words.specs.declared.line.Command.{Command}
use Rattle.mesh_cli.specs.cli.Sides.{Sides}
use Rattle.mesh_cli.specs.promise.Kept.{Leaves, LineSettles}

-- The events that lead from a world in which some parts are in doubt to another. An event is a command over a folder,
-- made up to any of its changes, wherever it stops and whatever it answers; what it asks for settles in what the
-- events before it leave. Between two events the files of the folder and the clock may become any others.
pub data Events (w : World) (x : Parts) : World → Parts → Type 0 where
  no_event : Events w x w x
  event : (u v : World) (y z : Parts) → Events w x u y → (dir : List ℕ) (c : Command) (s : Sides) (settled : LineSettles dir s c y u) → Leaves dir s c y u settled z v → Events w x v z
