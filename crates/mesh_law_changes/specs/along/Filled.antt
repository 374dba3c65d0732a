-- One model of a plan on its way: it is made and filled, and nothing else is changed.
use Rattle.std.specs.Prelude.{◌≡◌, List, ◌++◌, Some}
use Rattle.mesh_base_values.specs.declared.values.Name.{Name}
use Rattle.mesh_base.specs.declared.forgets.Forget.{Forget}
use Rattle.mesh_house_book.specs.declared.book.Book.{Book}
use Rattle.mesh_spec_model.specs.Horizons.{Clock}
use Rattle.mesh_house.specs.declared.world.Change.{Change}
use Rattle.mesh_house.specs.declared.world.World.{World}
use Rattle.mesh_house.specs.Step.{run}
use Rattle.mesh_house.specs.World.{version_of}
use Rattle.mesh_spec_changes.specs.due.Dues.{due}
use Rattle.mesh_spec_changes.specs.due.Parts.{Parts}
use Rattle.mesh_spec_changes.specs.due.Plans.{Planned, is_made}
use Rattle.mesh_spec_changes.specs.Changes.{fills, is_any, makes}
use Rattle.mesh_spec_promise.specs.Current.{IsDone}
use Rattle.mesh_spec_promise.specs.Histories.{left}
use Rattle.mesh_law_changes.specs.along.Along.{StaysAlong}

-- Of two worlds what is kept of one object alone may differ.
pub record IsOfObject (object : Name) (before after : World) : Type 0 where
  pub sources : after.sources ≡ before.sources
  pub moment : after.book.moment ≡ before.book.moment
  pub snapshots : after.book.snapshots ≡ before.book.snapshots
  pub environments : after.book.environments ≡ before.book.environments
  pub versions : (name : Name) → ¬ (name ≡ object) → version_of after.book name ≡ version_of before.book name

-- what makes a model's object in a plan, by the book before
abbrev pub making_of : Clock → Book → List Forget → List Planned → Planned → List Change
making_of clock b forgets all p = makes (is_made (version_of b p.object)) all p p.node.own.kind (is_any (due clock b forgets p))

-- A model is made and filled with all that is due of it. The world stays sound along these changes, then the model is
-- done, and only its object has changed.
pub record IsOneFilled (clock : Clock) (b : Book) (forgets : List Forget) (all : List Planned) (p : Planned) (x : Parts) (w : World) : Type 0 where
  pub filled : List Change
  pub fills_it : fills clock (run w (making_of clock b forgets all p)) all p (due clock b forgets p) ≡ Some filled
  pub along : StaysAlong x w (making_of clock b forgets all p ++ filled)
  pub done : IsDone clock (left (making_of clock b forgets all p ++ filled) x) (run w (making_of clock b forgets all p ++ filled)).book p
  pub only : IsOfObject p.object w (run w (making_of clock b forgets all p ++ filled))
