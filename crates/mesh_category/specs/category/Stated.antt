-- The models of a project as they are compared, and the category of each.
use Rattle.std.specs.Prelude.{◌≡◌, Bool, true, false, List, [], ◌∷◌}
use Rattle.std.specs.List.{AllZip}
use Rattle.std.specs.declared.option.Option.{Option}
use Rattle.std.specs.declared.option.Option.TheVariants.{None, Some}
use Rattle.mesh_list.specs.Keyed.{found}
use Rattle.mesh_base_values.specs.declared.values.Name.{Name}
use Rattle.mesh_base_values.specs.Names.{name_cmp}
use Rattle.mesh_base.specs.declared.plans.Category.{Category}
use Rattle.mesh_base.specs.declared.plans.Category.TheVariants.{Unchanged, Breaking, NonBreaking, IndirectBreaking, IndirectNonBreaking}
use Rattle.mesh_base.specs.declared.snapshots.Node.{Node}
use Rattle.mesh_base.specs.rules.Proper.{ProjectNodes}
use Rattle.mesh_spec_model.specs.Closures.{Closure, Closures, Model, closures, own_of, parents_at}
use Rattle.mesh_spec_changes.specs.reuse.Categories.{AddsOnly, HasCategory, Stated}

-- the fingerprint of each node, with the closure beside it
abbrev pub stated_with : List Node → List Closure → List Stated
stated_with [] cs = []
stated_with (n ∷ ns) [] = []
stated_with (n ∷ ns) (c ∷ cs) = record { fingerprint = n.fingerprint; closure = c } ∷ stated_with ns cs

-- the models of a project, each at its fingerprint with all that it stands on
abbrev pub stated : List Node → List Stated
stated nodes = stated_with nodes (closures nodes)

-- a node over these closures, and one behind these nodes
abbrev pub stated_over : Closures → Node → Stated
stated_over parents n = record { fingerprint = n.fingerprint; closure = Model n.own parents }

abbrev pub stated_after : List Node → Node → Stated
stated_after before n = stated_over (parents_at (closures before) n.parents) n

abbrev pub stated_name : Stated → Name
stated_name s = (own_of s.closure).name

-- the model of this one's name
abbrev pub counterpart : List Stated → Stated → Option Stated
counterpart compared s = found name_cmp stated_name (stated_name s) compared

-- the one category that a model has beside what it is compared with
abbrev pub IsCategory : Option Stated → Stated → Category → Type 0
IsCategory old new category = HasCategory old new category × ((other : Category) → HasCategory old new other → other ≡ category)

-- and that among those that a project is compared with
abbrev pub IsCategoryAmong : List Stated → Stated → Category → Type 0
IsCategoryAmong compared s category = IsCategory (counterpart compared s) s category

-- each model of a project has this category beside that of its name, in their order
abbrev pub HaveCategories : List Node → List Node → List Category → Type 0
HaveCategories compared project categories = AllZip (IsCategoryAmong (stated compared)) (stated project) categories

-- the project that one is compared with, or an empty one
abbrev pub nodes_of : Option ProjectNodes → List Node
nodes_of None = []
nodes_of (Some p) = p.nodes

-- a model only adds columns to that of its name, where there is one
abbrev pub AddsTo : Option Stated → Stated → Type 0
AddsTo None new = ⊥
AddsTo (Some old) new = AddsOnly old new

abbrev pub AddsAmong : List Stated → Stated → Bool → Type 0
AddsAmong compared s adds = (adds ≡ true → AddsTo (counterpart compared s) s) × (AddsTo (counterpart compared s) s → adds ≡ true)

-- which category it is, by whether the fingerprints and the definitions are the same and whether only columns are added
abbrev pub category_of : Bool → Bool → Bool → Category
category_of true same adds = Unchanged
category_of false true true = IndirectNonBreaking
category_of false true false = IndirectBreaking
category_of false false true = NonBreaking
category_of false false false = Breaking
