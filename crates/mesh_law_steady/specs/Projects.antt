-- Books whose projects are steady.
use Rattle.std.specs.Prelude.{◌≡◌, true}
use Rattle.mesh_base.specs.declared.snapshots.Snapshot.{Snapshot}
use Rattle.mesh_house_book.specs.declared.book.Book.{Book}
use Rattle.mesh_spec_changes.specs.listed.Closing.{IsSnapshot, closing}
use Rattle.mesh_spec_changes.specs.due.Marks.{is_computed}
use Rattle.mesh_spec_changes.specs.steady.Even.{is_even}
use Rattle.mesh_spec_changes.specs.steady.Steady.{is_steady}

-- Each incremental and each FULL snapshot is steady, and each snapshot's closure is even.
pub record IsSteadyBook (b : Book) : Type 0 where
  pub steady : (s : Snapshot) → IsSnapshot b.snapshots s → is_computed s.own.kind ≡ true → is_steady (closing b.snapshots s) ≡ true
  pub even : (s : Snapshot) → IsSnapshot b.snapshots s → is_even (closing b.snapshots s) ≡ true
