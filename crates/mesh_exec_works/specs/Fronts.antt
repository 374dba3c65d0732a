-- Which models of a plan may be computed before any of those that come before them in a list is made: those whose
-- tables are there, and are none of the objects that are made and filled up to them.
use Rattle.std.specs.Prelude.{◌≡◌, ◌-◌, ℕ, nat_lt, Bool, true, false, ◌||◌, if◌then◌else◌, List, [], ◌∷◌, ◌++◌, length, map, Some, None}
use Rattle.std.specs.List.{list_all, list_any, slice_index_or}
use Rattle.std.specs.Option.{option_map}
use Rattle.std.specs.Ordering.{is_eq}
use Rattle.std.specs.declared.option.Option.{Option}
use Rattle.mesh_base_values.specs.Names.{name_cmp}
use Rattle.mesh_base_values.specs.declared.kinds.Kind.{Kind}
use Rattle.mesh_base_values.specs.declared.kinds.Kind.TheVariants.{View}
use Rattle.mesh_base_values.specs.declared.values.Name.{Name}
use Rattle.mesh_base.specs.declared.jobs.Input.{Input}
use Rattle.mesh_base.specs.declared.snapshots.Node.{Node}
use Rattle.mesh_spec_model.specs.Scratch.{table_of}
use Rattle.mesh_spec_model.specs.Sources.{inputs}
use Rattle.mesh_house.specs.declared.world.World.{World}
use Rattle.mesh_house.specs.World.{object_at, body_of, rows_of}
use Rattle.mesh_spec_changes.specs.shown.Shown.{each_there}
use Rattle.mesh_spec_changes.specs.due.Plans.{Planned}
use Rattle.mesh_exec_works.specs.declared.fronts.Pooled.{Pooled}
use Rattle.mesh_exec_works.specs.declared.works.Work.{Work}
use Rattle.mesh_exec_works.specs.Lost.{reads}
use Rattle.mesh_exec_works.specs.Plain.{model_of, parents_at, work_model}
use Rattle.mesh_exec_works.specs.Works.{Part, part_of}

-- a model as a table, where its object is one
abbrev pub table_now : World → Planned → Option Input
table_now w p = option_map (table_of p.node.own) (rows_of (body_of (object_at w p.object)))

abbrev pub work_now : World → Work → Option Input
work_now w k = table_now w (work_model k)

-- the tables that a model reads, where each of these parents' objects is one
abbrev pub tables_now : World → Planned → List Planned → Option (List Input)
tables_now w p parents = option_map (inputs w.sources p.node.own) (each_there (map (table_now w) parents))

-- one of these parts has the object of that name
abbrev pub has_object : List Part → Name → Bool
has_object parts name = list_any (λ (q : Part). is_eq (name_cmp q.entry.object name)) parts

abbrev pub is_view : Kind → Bool
is_view View = true
is_view other = false

-- a model is a view, or one of these parts has its object
abbrev pub is_read_later : List Part → Planned → Bool
is_read_later parts p = is_view p.node.own.kind || has_object parts p.object

abbrev pub are_read_later : List Part → List Planned → Bool
are_read_later parts models = list_any (is_read_later parts) models

-- the tables of a part that reads these parents, where they are there and none is an object of these parts
abbrev pub parents_now : World → List Part → Planned → List Planned → Option (List Input)
parents_now w parts p parents = if are_read_later parts parents then None else tables_now w p parents

-- the tables of a part; there are none where it reads nothing
abbrev pub pool_now : World → List Planned → List Part → Part → Option (List Input)
pool_now w all parts p = if reads p then parents_now w parts (model_of p.node p.entry) (parents_at all p.node.parents) else Some []

abbrev pub or_end : Option (List Input) → List (List Input) → List (List Input)
or_end None pools = []
or_end (Some tables) pools = tables ∷ pools

-- the tables of the first of some parts, behind others, as far as each has them
abbrev pub pools_from : World → List Planned → List Part → List Part → List (List Input)
pools_from w all before [] = []
pools_from w all before (p ∷ ps) = or_end (pool_now w all (before ++ p ∷ []) p) (pools_from w all (before ++ p ∷ []) ps)

abbrev pub pool_at : List (List Input) → ℕ → List Input
pool_at pools n = slice_index_or pools n []

-- the pool of each model by its number
abbrev pub each_pool : Pooled → List (List Input)
each_pool p = map (pool_at p.pools) p.numbers

-- each number is that of a pool
abbrev pub are_there : Pooled → Bool
are_there p = list_all (λ n. nat_lt n (length p.pools)) p.numbers

abbrev pub last_pool : Pooled → List Input
last_pool p = pool_at p.pools (length p.pools - 1)

-- two models declare the same sources and have the same parents
abbrev pub AreAlike : Node → Node → Type 0
AreAlike a b = (a.own.sources ≡ b.own.sources) × (a.parents ≡ b.parents)

-- the tables of a part are those of another one, where that has some
abbrev pub FindsSame : List Planned → List Part → Part → Part → Type 0
FindsSame all parts before p = (w : World) (others : List Part) (tables : List Input) → pool_now w all others before ≡ Some tables → pool_now w all parts p ≡ Some tables

abbrev pub GoesOn : List Planned → List Part → Option Work → Part → Type 0
GoesOn all parts None p = ⊥
GoesOn all parts (Some before) p = FindsSame all parts (part_of before) p
