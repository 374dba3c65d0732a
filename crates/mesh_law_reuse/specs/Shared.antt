-- Books in which only twins share a table, and what putting a plan's snapshots makes of a book.
use Rattle.std.specs.Prelude.{◌≡◌, ◌⊎◌, ℤ, List, Some}
use Rattle.std.specs.List.{Contains}
use Rattle.mesh_base.specs.declared.snapshots.Ref.{Ref}
use Rattle.mesh_base.specs.declared.snapshots.Snapshot.{Snapshot}
use Rattle.mesh_house_book.specs.declared.book.Book.{Book}
use Rattle.mesh_house_book.specs.WellFormed.{snapshot_at}
use Rattle.mesh_spec_changes.specs.listed.Closing.{IsAlike, IsSnapshot, closing}
use Rattle.mesh_spec_changes.specs.reuse.Cores.{IsTwin}
use Rattle.mesh_spec_changes.specs.due.Plans.{Planned}
use Rattle.mesh_spec_changes.specs.Changes.{snapshot_of}

-- snapshots that share a table are of one model and need the same of its ancestors
abbrev pub SharesWithTwins : Book → Type 0
SharesWithTwins b =
    (s s' : Snapshot) → IsSnapshot b.snapshots s → IsSnapshot b.snapshots s' → s.object ≡ s'.object → (s.name ≡ s'.name) × IsTwin (closing b.snapshots s) (closing b.snapshots s')

-- the snapshot of a model that is planned at a moment
abbrev pub IsOfPlan : ℤ → List Planned → Snapshot → Type 0
IsOfPlan t models s = (p : Planned) × Contains models p × (s ≡ snapshot_of t models p)

-- the snapshots of a book stay, but perhaps for their objects and times, and others are those of planned models
pub record HasPut (t : ℤ) (models : List Planned) (before after : Book) : Type 0 where
  pub kept : (r : Ref) (p : Snapshot) → snapshot_at before.snapshots r ≡ Some p → IsAlike after.snapshots r p
  pub each : (s : Snapshot) → IsSnapshot after.snapshots s → IsSnapshot before.snapshots s ⊎ IsOfPlan t models s
