-- Models that are up to date in a world.
use Rattle.std.specs.Prelude.{◌≡◌, List, length}
use Rattle.std.specs.List.{AllByRecursion}
use Rattle.mesh_base.specs.declared.plans.Entry.{Entry}
use Rattle.mesh_base.specs.declared.snapshots.Node.{Node}
use Rattle.mesh_spec_model.specs.Horizons.{Clock, Shows}
use Rattle.mesh_house.specs.declared.world.World.{World}
use Rattle.mesh_spec_changes.specs.due.Parts.{Parts}
use Rattle.mesh_spec_changes.specs.due.Plans.{planned}
use Rattle.mesh_spec_promise.specs.Current.{IsReadable}
use Rattle.mesh_spec_promise.specs.Sound.{Sound}

-- The world is kept well but for some parts, and each model of a project has an entry and is up to date with all that
-- it stands on.
pub record AreUpToDate (clock : Clock) (x : Parts) (w : World) (nodes : List Node) (entries : List Entry) : Type 0 where
  pub sound : Sound x w
  pub now : Shows clock w.book.moment
  pub as_many : length entries ≡ length nodes
  pub models : AllByRecursion (IsReadable clock x w.book) (planned nodes entries)
