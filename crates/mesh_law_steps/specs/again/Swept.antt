-- What a sweep leaves of a world.
use Rattle.std.specs.Prelude.{ℤ, not, List, map}
use Rattle.std.specs.List.{filter, flat_map}
use Rattle.std.specs.Int.{int_max}
use Rattle.mesh_base_values.specs.declared.values.Name.{Name}
use Rattle.mesh_base.specs.Keys.{ref_name}
use Rattle.mesh_base.specs.declared.snapshots.Env.{Env}
use Rattle.mesh_base.specs.rules.Proper.{is_among}
use Rattle.mesh_house_book.specs.declared.book.Book.{Book}
use Rattle.mesh_house_book.specs.declared.versions.Version.{Version}
use Rattle.mesh_house.specs.declared.objects.Object.{Object}
use Rattle.mesh_house.specs.declared.world.ViewOf.{ViewOf}
use Rattle.mesh_house.specs.declared.world.World.{World}
use Rattle.mesh_spec_changes.specs.Changes.{names_by_order}
use Rattle.mesh_spec_changes.specs.Environments.{view_in}
use Rattle.mesh_spec_changes.specs.Kept.{both_lists, gone_tables, is_kept, is_table_kept, leaving, staying}

-- the book: what stays at the moment
abbrev pub swept_book : Book → ℤ → Book
swept_book b t = record b {
  moment = int_max b.moment t;
  snapshots = filter (is_kept b t) b.snapshots;
  versions = filter (λ (v : Version). is_table_kept b t v.object) b.versions;
  environments = staying t b.environments;
}

-- the views of an environment, those of its previous list among them
abbrev pub views_of : Env → List Name
views_of e = map (view_in e.name) (names_by_order (map ref_name (both_lists e)))

-- the views of the environments that go
abbrev pub gone_views : Book → ℤ → List Name
gone_views b t = flat_map views_of (leaving t b.environments)

-- the world: without the tables and the views that go
abbrev pub swept : World → ℤ → World
swept w t = record w {
  objects = filter (λ (o : Object). not (is_among (gone_tables w.book t) o.name)) w.objects;
  views = filter (λ (v : ViewOf). not (is_among (gone_views w.book t) v.view)) w.views;
  book = swept_book w.book t;
}
