-- Names, the places of models by their names, and the models that are gone.
use Rattle.std.specs.Prelude.{◌≡◌, ◌<◌, ◌≤◌, ℕ, false, List, length, count_by, map, slice_index_or}
use Rattle.std.specs.List.{slice_get}
use Rattle.std.specs.Ordering.{is_eq, is_lt}
use Rattle.std.specs.declared.option.Option.{Option}
use Rattle.std.specs.declared.option.Option.TheVariants.{None, Some}
use Rattle.mesh_base_values.specs.declared.values.Name.{Name}
use Rattle.mesh_base_values.specs.Names.{name_cmp}
use Rattle.mesh_base.specs.declared.snapshots.Node.{Node}
use Rattle.mesh_base.specs.rules.Proper.{has_node}
use Rattle.mesh_spec_changes.specs.reuse.Categories.{removed}

abbrev pub name_of : Node → Name
name_of n = n.own.name

abbrev pub names_of : List Node → List Name
names_of nodes = map name_of nodes

-- where a model of this name stands, or that none does
abbrev pub IsPlaceOf : List Node → Name → Option ℕ → Type 0
IsPlaceOf nodes name None = has_node nodes name ≡ false
IsPlaceOf nodes name (Some at) = (n : Node) × (slice_get nodes at ≡ Some n) × (n.own.name ≡ name)

-- how often a name stands in a list
abbrev pub times : Name → List Name → ℕ
times name names = count_by (λ n. is_eq (name_cmp name n)) names

-- the same names, each as often
abbrev pub IsSameBag : List Name → List Name → Type 0
IsSameBag xs ys = (name : Name) → times name xs ≡ times name ys

-- no name is less than one before it
abbrev pub IsAscending : List Name → Type 0
IsAscending names = (i j : ℕ) (d : Name) → i ≤ j → j < length names → is_lt (name_cmp (slice_index_or names j d) (slice_index_or names i d)) ≡ false

-- the names of the models that a project doesn't have any more, in ascending order
pub record AreGone (compared project : List Node) (names : List Name) : Type 0 where
  pub same : IsSameBag (removed (names_of compared) (names_of project)) names
  pub ascending : IsAscending names
