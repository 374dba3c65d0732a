-- What is looked up of a book, a project and a list: fingerprints, and the fingerprints by which names are taken.
use Rattle.std.specs.Prelude.{◌≡◌, ℕ, ◌+◌, Bool, true, false, List, [], ◌∷◌, map, if◌then◌else◌}
use Rattle.std.specs.BTreeMap.{get}
use Rattle.std.specs.List.{list_any}
use Rattle.std.specs.Option.{is_some, option_map}
use Rattle.std.specs.Ordering.{is_eq}
use Rattle.std.specs.declared.option.Option.{Option}
use Rattle.std.specs.declared.option.Option.TheVariants.{None, Some}
use Rattle.mesh_list.specs.Keyed.{found}
use Rattle.mesh_base_values.specs.Names.{name_cmp, text_cmp}
use Rattle.mesh_base_values.specs.declared.values.Name.{Name}
use Rattle.mesh_base.specs.Keys.{ref_name}
use Rattle.mesh_base.specs.declared.snapshots.Node.{Node}
use Rattle.mesh_base.specs.declared.snapshots.Ref.{Ref}
use Rattle.mesh_base.specs.declared.snapshots.Snapshot.{Snapshot}
use Rattle.mesh_category.specs.declared.versions.index.Index.{Index}
use Rattle.mesh_category.specs.declared.versions.index.Told.{Told}
use Rattle.mesh_category.specs.declared.versions.index.Told.TheVariants.{New, Stored, Shared}

-- whether a fingerprint stands in a list more than once, and none where it doesn't stand in it
abbrev pub again : List (List ℕ) → List ℕ → Option Bool
again [] f = None
again (x ∷ xs) f = if is_eq (text_cmp x f) then Some (is_some (again xs x)) else again xs f

abbrev pub snapshot_print : Snapshot → List ℕ
snapshot_print s = s.fingerprint

abbrev pub node_print : Node → List ℕ
node_print n = n.fingerprint

abbrev pub ref_print : Ref → List ℕ
ref_print r = r.fingerprint

abbrev pub snapshot_object : Snapshot → Name
snapshot_object s = s.object

-- the fingerprint of the first snapshot that has an object
abbrev pub holder : List Snapshot → Name → Option (List ℕ)
holder all object = option_map snapshot_print (found name_cmp snapshot_object object all)

-- the fingerprint at which a list has a model
abbrev pub listed_print : List Ref → Name → Option (List ℕ)
listed_print base name = option_map ref_print (found name_cmp ref_name name base)

-- what a fingerprint stands for by the models alone: whether several have it
abbrev pub given_as : Bool → Told
given_as true = Shared
given_as false = New

-- the same where a snapshot has it too, which stands at this place
abbrev pub stored_too : ℕ → Told → Told
stored_too at New = Stored at
stored_too at (Stored other) = Shared
stored_too at Shared = Shared

-- and by these snapshots, whose places are counted from this one on
abbrev pub told_from : ℕ → List Snapshot → List ℕ → Told → Told
told_from at [] f told = told
told_from at (s ∷ ss) f told = if is_eq (text_cmp s.fingerprint f) then stored_too at (told_from (at + 1) ss f told) else told_from (at + 1) ss f told

-- what a fingerprint stands for in a book and a project, and nothing where no model has it
abbrev pub told_of : List Snapshot → List Node → List ℕ → Option Told
told_of all nodes f = option_map (λ twice. told_from 0 all f (given_as twice)) (again (map node_print nodes) f)

abbrev pub is_new : Option Told → Bool
is_new None = false
is_new (Some New) = true
is_new (Some (Stored at)) = false
is_new (Some Shared) = false

-- some model's fingerprint is new
abbrev pub has_new : List Snapshot → List Node → Bool
has_new all nodes = list_any (λ (n : Node). is_new (told_of all nodes n.fingerprint)) nodes

-- an index of some snapshots, the models of a project and a list; names are looked up where some model is new
pub record IsIndex (all : List Snapshot) (nodes : List Node) (base : List Ref) (index : Index) : Type 0 where
  pub told : (f : List ℕ) → get text_cmp index.told f ≡ told_of all nodes f
  pub objects : has_new all nodes ≡ true → (name : Name) → get name_cmp index.objects name ≡ holder all name
  pub compared : has_new all nodes ≡ true → (name : Name) → get name_cmp index.compared name ≡ listed_print base name
