-- What an environment shows once it is finalized: each model's rows from scratch.
use Rattle.std.specs.Prelude.{◌≡◌, ℕ, false, List, Some, IsTrue}
use Rattle.std.specs.List.{AllByRecursion}
use Rattle.mesh_base_values.specs.Bag.{IsSameBag}
use Rattle.mesh_base_values.specs.declared.values.Cell.{Cell}
use Rattle.mesh_base_values.specs.declared.values.Name.{Name}
use Rattle.mesh_base.specs.declared.snapshots.Env.{Env}
use Rattle.mesh_base.specs.rules.Proper.{is_plain_schema}
use Rattle.mesh_spec_model.specs.Horizons.{Clock}
use Rattle.mesh_spec_model.specs.Scratch.{from_scratch}
use Rattle.mesh_house.specs.declared.world.World.{World}
use Rattle.mesh_house.specs.World.{view}
use Rattle.mesh_spec_changes.specs.Changes.{refs_by_name, is_listed}
use Rattle.mesh_spec_changes.specs.Environments.{env_at, view_in}
use Rattle.mesh_spec_changes.specs.due.Plans.{Planned}
use Rattle.mesh_spec_changes.specs.shown.Shown.{view_rows}

-- a view stands and shows a model's rows from scratch
pub record ShowsModel (w : World) (clock : Clock) (env : List ℕ) (p : Planned) : Type 0 where
  pub rows : List (List Cell)
  pub shown : view_rows w (view_in env p.node.own.name) ≡ Some rows
  pub scratch : IsSameBag rows (from_scratch w.sources clock p.closure)

pub record Final (w : World) (clock : Clock) (env : List ℕ) (models : List Planned) : Type 0 where
  pub record_of : Env
  pub known : env_at w.book env ≡ Some record_of
  pub final : record_of.pending ≡ false
  pub list : record_of.list ≡ refs_by_name models
  pub shown : AllByRecursion (ShowsModel w clock env) models
  -- no other view of the environment stands
  pub others : (m target : Name) → IsTrue (is_plain_schema m.schema) → view w (view_in env m) ≡ Some target → IsTrue (is_listed models m)
