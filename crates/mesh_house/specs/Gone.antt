-- A world some of whose snapshots, versions and objects are still to go.
use Rattle.std.specs.Prelude.{◌≡◌, true, List, []}
use Rattle.mesh_base_values.specs.declared.values.Name.{Name}
use Rattle.mesh_base_values.specs.Names.{name_cmp}
use Rattle.mesh_base.specs.declared.snapshots.Ref.{Ref}
use Rattle.mesh_base.specs.Keys.{ref_cmp, snapshot_ref}
use Rattle.mesh_house_book.specs.declared.book.Book.{Book}
use Rattle.mesh_house_book.specs.Changes.{version_object}
use Rattle.mesh_house.specs.declared.gone.Gone.{Gone}
use Rattle.mesh_house.specs.declared.world.World.{World}
use Rattle.mesh_house.specs.Objects.{object_name}
use Rattle.mesh_house.specs.Outside.{may_lose, outside}

-- nothing is to go
abbrev pub nothing_gone : Gone
nothing_gone = record { snapshots = []; versions = []; objects = [] }

-- the book without what is to go
abbrev pub thin_book : Book → List Ref → List Name → Book
thin_book b snapshots versions = record b {
  snapshots = outside ref_cmp snapshot_ref snapshots b.snapshots;
  versions = outside name_cmp version_object versions b.versions;
}

-- the same of all that is to go
abbrev pub thinned : Book → Gone → Book
thinned b gone = thin_book b gone.snapshots gone.versions

-- the world without what is to go
abbrev pub settled : World → Gone → World
settled w gone = record w {
  objects = outside name_cmp object_name gone.objects w.objects;
  book = thin_book w.book gone.snapshots gone.versions;
}

-- what is to go is found in lists that ascend
pub record MayGo (b : Book) (gone : Gone) : Type 0 where
  pub snapshots : may_lose ref_cmp snapshot_ref gone.snapshots b.snapshots ≡ true
  pub versions : may_lose name_cmp version_object gone.versions b.versions ≡ true
