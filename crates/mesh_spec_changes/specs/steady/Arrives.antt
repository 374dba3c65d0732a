-- Sources that change in such rows alone as no computed unit reads.
use Rattle.std.specs.Prelude.{◌≡◌, ℕ, true, List, Some, None}
use Rattle.std.specs.List.{All, Contains, filter}
use Rattle.mesh_base_values.specs.Bag.{IsSameBag}
use Rattle.mesh_base_values.specs.Kinds.{is_incremental}
use Rattle.mesh_base_values.specs.declared.times.Bounds.{Bounds}
use Rattle.mesh_base_values.specs.declared.times.Unit.TheVariants.{Day}
use Rattle.mesh_base.specs.declared.definitions.Decl.{Decl}
use Rattle.mesh_base.specs.declared.jobs.Input.{Input}
use Rattle.mesh_base.specs.declared.snapshots.Snapshot.{Snapshot}
use Rattle.mesh_time_days.specs.seconds.Times.{lies_in}
use Rattle.mesh_spec_model.specs.Horizons.{Clock, Shows, floored, schedule}
use Rattle.mesh_spec_model.specs.Sources.{declared, source_named}
use Rattle.mesh_house.specs.declared.world.World.{World}
use Rattle.mesh_spec_changes.specs.listed.Closing.{closing, IsSnapshot}

-- from the first second of the unit's first day to its end
abbrev pub from_its_day : Bounds → Bounds
from_its_day u = record u { start = floored Day u.start }

-- a source has in both the same rows there, each as often, as far as a model declares it
abbrev pub HasSameRows : List Input → List Input → Decl → List ℕ → Bounds → Type 0
HasSameRows before after d time u =
    IsSameBag (filter (lies_in d.columns time (from_its_day u)) (declared before d).rows) (filter (lies_in d.columns time (from_its_day u)) (declared after d).rows)

-- a static source stays
abbrev pub StaysStatic : List Input → List Input → Decl → Type 0
StaysStatic before after d = d.time ≡ None → source_named before d ≡ source_named after d

-- a timed source keeps the rows of each of these units
abbrev pub KeepsUnits : List Input → List Input → List Bounds → Decl → Type 0
KeepsUnits before after units d = (time : List ℕ) → d.time ≡ Some time → (u : Bounds) → Contains units u → HasSameRows before after d time u

-- Static sources stay, and each timed source that an incremental snapshot names keeps the rows of the units of its
-- schedule at the book's moment.
pub record Arrives (w : World) (after : List Input) : Type 0 where
  pub static : (s : Snapshot) → IsSnapshot w.book.snapshots s → All (StaysStatic w.sources after) s.own.sources
  pub timed : (clock : Clock) → Shows clock w.book.moment → (s : Snapshot) → IsSnapshot w.book.snapshots s → is_incremental s.own.kind ≡ true →
      All (KeepsUnits w.sources after (schedule clock (closing w.book.snapshots s))) s.own.sources
