-- What a definition reads: the sources that it declares, and its parents.
use Rattle.std.specs.Prelude.{ℕ, ◌+◌, max, Bool, List, [], ◌∷◌, ◌++◌, map, Some, None, if◌then◌else◌}
use Rattle.std.specs.List.{list_any}
use Rattle.std.specs.declared.option.Option.{Option}
use Rattle.std.specs.Ordering.{is_eq}
use Rattle.mesh_base_values.specs.declared.values.Column.{Column}
use Rattle.mesh_base_values.specs.declared.values.Name.{Name}
use Rattle.mesh_base_values.specs.Names.{name_cmp}
use Rattle.mesh_base.specs.declared.definitions.Decl.{Decl}
use Rattle.mesh_base.specs.declared.rules.relations.Relation.{Relation}
use Rattle.mesh_base.specs.declared.rules.relations.Parent.{Parent}

-- a source and a parent, as a query reads them
abbrev pub source_relation : Decl → Relation
source_relation d = record { name = d.name; columns = d.columns }

abbrev pub parent_relation : Parent → Relation
parent_relation p = record { name = p.name; columns = p.columns }

-- the sources, and behind them the parents
abbrev pub read_relations : List Decl → List Parent → List Relation
read_relations sources parents = map source_relation sources ++ map parent_relation parents

-- the columns of the relation of that name
abbrev pub relation_columns : List Relation → Name → Option (List Column)
relation_columns [] name = None
relation_columns (r ∷ rs) name = if is_eq (name_cmp r.name name) then Some r.columns else relation_columns rs name

-- a name is one of these sources'
abbrev pub is_declared : List Decl → Name → Bool
is_declared sources name = list_any (λ (d : Decl). is_eq (name_cmp d.name name)) sources

-- a name is one of these parents'
abbrev pub is_parent : List Parent → Name → Bool
is_parent parents name = list_any (λ (p : Parent). is_eq (name_cmp p.name name)) parents

abbrev pub parent_name : Parent → Name
parent_name p = p.name

-- the least rank from this one on that is above that of each parent
abbrev pub rank_over : ℕ → List Parent → ℕ
rank_over rank [] = rank
rank_over rank (p ∷ ps) = rank_over (max rank (p.rank + 1)) ps
