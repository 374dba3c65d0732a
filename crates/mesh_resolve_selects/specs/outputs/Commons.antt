-- The common table expressions that stand before, found by their names.
use Rattle.std.specs.Prelude.{ℕ, suc, Bool, List, [], ◌∷◌, if◌then◌else◌}
use Rattle.std.specs.declared.option.Option.{Option}
use Rattle.std.specs.declared.option.Option.TheVariants.{None, Some}
use Rattle.mesh_base_values.specs.declared.values.Column.{Column}
use Rattle.mesh_base_values.specs.Names.{text_cmp}
use Rattle.mesh_base_values.specs.Picked.{same_text}
use Rattle.mesh_base.specs.declared.queries.Rel.{Rel}
use Rattle.mesh_base.specs.declared.queries.Rel.TheVariants.{Cte}
use Rattle.mesh_base.specs.declared.queries.Select.{Select}
use Rattle.mesh_base.specs.Outputs.{select_columns}
use Rattle.mesh_list.specs.Keyed.{first_at}
use Rattle.mesh_resolve_selects.specs.declared.outputs.commons.Common.{Common}

abbrev pub selects_of : Common → List Select
selects_of c = c.selects

-- CTEs are found by their names
abbrev pub common_name : Common → List ℕ
common_name c = c.name

-- the place of the first CTE of that name
abbrev pub place_named : List ℕ → List Common → Option ℕ
place_named name ctes = first_at text_cmp common_name name ctes

-- one of that name
abbrev pub is_cte : List ℕ → Common → Bool
is_cte name c = same_text c.name name

-- a relation that is there, with its columns
abbrev pub Found : Type 0
Found = Rel × List Column

-- the first CTE of that name, by its place
abbrev pub cte_named : ℕ → List Common → List ℕ → Option Found
cte_named place [] name = None
cte_named place (c ∷ cs) name = if same_text c.name name then Some (Cte place, select_columns c.selects) else cte_named (suc place) cs name
