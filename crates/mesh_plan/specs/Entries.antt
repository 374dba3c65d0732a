-- The objects of a project's models beside their categories, and the models that are gone.
use Rattle.std.specs.Prelude.{◌≡◌, List, [], ◌∷◌, map, Some, None, if◌then◌else◌}
use Rattle.std.specs.declared.option.Option.{Option}
use Rattle.mesh_base_values.specs.declared.values.Name.{Name}
use Rattle.mesh_base_values.specs.declared.values.Pair.{Pair}
use Rattle.mesh_base.specs.declared.plans.Category.{Category}
use Rattle.mesh_base.specs.declared.plans.Category.TheVariants.{Unchanged}
use Rattle.mesh_base.specs.declared.plans.Entry.{Entry}
use Rattle.mesh_base.specs.declared.snapshots.Node.{Node}
use Rattle.mesh_base.specs.declared.snapshots.Ref.{Ref}
use Rattle.mesh_base.specs.declared.snapshots.Snapshot.{Snapshot}
use Rattle.mesh_base.specs.rules.Proper.{has_node}
use Rattle.mesh_house_book.specs.declared.book.Book.{Book}
use Rattle.mesh_house_book.specs.WellFormed.{snapshot_at}
use Rattle.mesh_house.specs.World.{version_of}
use Rattle.mesh_category.specs.category.Stated.{HaveCategories}
use Rattle.mesh_spec_changes.specs.listed.Listed.{listed}
use Rattle.mesh_spec_changes.specs.due.Plans.{is_made}
use Rattle.mesh_spec_changes.specs.due.Versions.{node_ref}
use Rattle.mesh_category.specs.versions.Clashes.{versions}
use Rattle.mesh_cli_print.specs.plans.PlanText.{kind_word}

-- a model's entry: its category, its object, and whether that is made
abbrev pub entry_of : Book → Category → Name → Entry
entry_of b category object = record { category = category; object = object; made = is_made (version_of b object) }

abbrev pub entries_of : Book → List Category → List Name → List Entry
entries_of b [] objects = []
entries_of b (k ∷ ks) [] = []
entries_of b (k ∷ ks) (o ∷ os) = entry_of b k o ∷ entries_of b ks os

-- the entries of a project's models, beside those of a list: their categories are those against its project, and their
-- objects go by these
pub record AreEntries (b : Book) (base : List Ref) (nodes : List Node) (entries : List Entry) : Type 0 where
  pub categories : List Category
  pub objects : List Name
  pub have : HaveCategories (listed b.snapshots base) nodes categories
  pub named : map Some objects ≡ versions b.snapshots base nodes categories
  pub are : entries ≡ entries_of b categories objects

-- a model that is gone, with the word of its kind
abbrev pub gone_as : Name → Option Snapshot → List Pair
gone_as name None = []
gone_as name (Some s) = record { first = name; second = record { schema = []; model = kind_word s.own.kind } } ∷ []

abbrev pub gone_of : List Snapshot → List Node → Ref → List Pair
gone_of all nodes r = if has_node nodes r.name then [] else gone_as r.name (snapshot_at all r)

-- the entry of a model that the book knows: it is unchanged, and has its recorded object
pub record IsRecorded (b : Book) (n : Node) (e : Entry) : Type 0 where
  pub snapshot : Snapshot
  pub known : snapshot_at b.snapshots (node_ref n) ≡ Some snapshot
  pub is : e ≡ entry_of b Unchanged snapshot.object
