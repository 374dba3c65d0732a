-- The models that stand before another one, and which of them its query names.
use Rattle.std.specs.Prelude.{ℕ, List, [], fold, if◌then◌else◌}
use Rattle.std.specs.declared.option.Option.{Option}
use Rattle.std.specs.declared.option.Option.TheVariants.{None, Some}
use Rattle.std.specs.Ordering.{is_eq}
use Rattle.mesh_list.specs.Keyed.{first_at, placed}
use Rattle.mesh_base_values.specs.Names.{name_cmp}
use Rattle.mesh_base_values.specs.declared.values.Name.{Name}
use Rattle.mesh_base.specs.declared.snapshots.Node.{Node}
use Rattle.mesh_project.specs.declared.nodes.earlier.Place.{Place}

-- models are found by their names
abbrev pub node_name : Node → Name
node_name n = n.own.name

-- the place of the first model of that name
abbrev pub place_of : List Node → Name → Option ℕ
place_of nodes name = first_at name_cmp node_name name nodes

-- the first of two places, where it is one
abbrev pub or_else : Option ℕ → Option ℕ → Option ℕ
or_else None other = other
or_else (Some place) other = Some place

-- the place of a name, which another name doesn't have
abbrev pub new_place : Name → ℕ → Name → Option ℕ
new_place name place other = if is_eq (name_cmp name other) then Some place else None

-- parents are found by their names
abbrev pub place_name : Place → Name
place_name p = p.name

-- where a parent stands
abbrev pub place_at : Place → ℕ
place_at p = p.at

-- a name with its place, put in the order of the names
abbrev pub put_at : Name → Option ℕ → List Place → List Place
put_at name None made = made
put_at name (Some at) made = placed name_cmp place_name (record { name = name; at = at }) made

-- a name is noted where a model has it
abbrev pub noted : List Node → List Place → Name → List Place
noted nodes made name = put_at name (place_of nodes name) made

-- the models among these names, each once, ascending by name
abbrev pub named : List Node → List Name → List Place
named nodes names = fold (noted nodes) [] names
