-- What a definition and its parents have to be, and which lists of models are a proper project.
use Rattle.std.specs.Prelude.{ℕ, ℤ, Bool, true, false, ◌&&◌, ◌||◌, not, nat_le, nat_eq, List, [], ◌∷◌, ◌++◌, length, Some, None}
use Rattle.std.specs.List.{list_all, list_any, slice_get, flat_map, ends_with}
use Rattle.std.specs.Option.{is_some}
use Rattle.std.specs.declared.option.Option.{Option}
use Rattle.std.specs.declared.cmp.Ordering.{Ordering}
use Rattle.std.specs.Ordering.{is_eq, nat_cmp, ordering_then}
use Rattle.mesh_list.specs.Keyed.{ascends}
use Rattle.mesh_base_values.specs.declared.values.Column.{Column}
use Rattle.mesh_base_values.specs.declared.values.Name.{Name}
use Rattle.mesh_base.specs.declared.queries.Rel.{Rel}
use Rattle.mesh_base.specs.declared.queries.Rel.TheVariants.{Named, Cte}
use Rattle.mesh_base.specs.declared.queries.FromItem.{FromItem}
use Rattle.mesh_base.specs.declared.queries.Select.{Select}
use Rattle.mesh_base_values.specs.declared.kinds.Kind.{Kind}
use Rattle.mesh_base_values.specs.declared.kinds.Kind.TheVariants.{Seed as SeedKind}
use Rattle.mesh_base.specs.declared.definitions.Defn.{Defn}
use Rattle.mesh_base.specs.declared.definitions.Defn.TheVariants.{Seed, Sql}
use Rattle.mesh_base.specs.declared.definitions.Own.{Own}
use Rattle.mesh_base.specs.declared.snapshots.Node.{Node}
use Rattle.mesh_base_values.specs.Names.{name_cmp, has_two_underscores}
use Rattle.mesh_base_values.specs.Crons.{is_cron}
use Rattle.mesh_base_values.specs.Kinds.{time_column}
use Rattle.mesh_base.specs.Outputs.{columns_of}
use Rattle.mesh_base.specs.declared.rules.relations.Relation.{Relation}
use Rattle.mesh_base.specs.declared.rules.relations.Parent.{Parent}
use Rattle.mesh_base.specs.rules.Relations.{is_declared, is_parent, parent_name, rank_over, read_relations}
use Rattle.mesh_base.specs.rules.Seen.{has_column, are_distinct, is_query_seen}

-- a schema of models and sources: no two underscores adjoin, and it doesn't end in one
abbrev pub is_plain_schema : List ℕ → Bool
is_plain_schema schema = not (has_two_underscores schema) && not (ends_with nat_eq schema (95 ∷ []))

-- the kind is SEED exactly where the body is rows
abbrev pub is_body_of : Kind → Defn → Bool
is_body_of SeedKind (Seed columns rows) = true
is_body_of SeedKind (Sql query) = false
is_body_of other (Seed columns rows) = false
is_body_of other (Sql query) = true

-- where rows are kept by a time column, there is a start, and a column of that name
abbrev pub has_time : Option (List ℕ) → Option ℤ → List Column → Bool
has_time None start columns = true
has_time (Some time) start columns = is_some start && has_column columns time

abbrev pub has_its_time : Kind → Option ℤ → List Column → Bool
has_its_time kind start columns = has_time (time_column kind) start columns

-- what the body names is there
abbrev pub is_body_seen : List Relation → Defn → Bool
is_body_seen relations (Seed columns rows) = true
is_body_seen relations (Sql query) = is_query_seen relations query

-- the relations that a body names, in its order
abbrev pub rel_names : Rel → List Name
rel_names (Named name) = name ∷ []
rel_names (Cte at) = []

abbrev pub from_names : List FromItem → List Name
from_names from = flat_map (λ (f : FromItem). rel_names f.rel) from

abbrev pub select_names : Select → List Name
select_names s = from_names s.from

abbrev pub selects_names : List Select → List Name
selects_names selects = flat_map select_names selects

abbrev pub names_of_all : List (List Select) → List Name
names_of_all ctes = flat_map selects_names ctes

abbrev pub defn_names : Defn → List Name
defn_names (Seed columns rows) = []
defn_names (Sql query) = names_of_all query.ctes ++ selects_names query.selects

-- a name is one of these
abbrev pub is_among : List Name → Name → Bool
is_among names name = list_any (λ n. is_eq (name_cmp n name)) names

-- the definition names each parent, and declares none as a source
abbrev pub are_named : List Parent → Own → List Name → Bool
are_named parents own names = list_all (λ (p : Parent). is_among names p.name && not (is_declared own.sources p.name)) parents

-- each relation that the definition names is a source that it declares or a parent
abbrev pub are_known : List Parent → Own → List Name → Bool
are_known parents own names = list_all (λ name. is_declared own.sources name || is_parent parents name) names

-- The names of the parents ascend, and are just those in the definition that none of its sources has.
abbrev pub are_its_parents : List Parent → Own → Bool
are_its_parents parents own =
    ascends name_cmp parent_name parents
    && (are_named parents own (defn_names own.defn) && are_known parents own (defn_names own.defn))

-- A definition with its parents is one that a project or a book may have.
abbrev pub is_well_formed : List Parent → Own → Bool
is_well_formed parents own =
    is_plain_schema own.name.schema
    && (is_body_of own.kind own.defn
    && (is_cron own.cron
    && (has_its_time own.kind own.start (columns_of own)
    && (are_distinct (columns_of own)
    && (is_body_seen (read_relations own.sources parents) own.defn && are_its_parents parents own)))))

-- A model stands on its parents: its rank is 0 without parents, and else one more than their greatest, and its
-- definition is well formed with them.
abbrev pub stands_on : List Parent → ℕ → Own → Bool
stands_on parents rank own = nat_eq rank (rank_over 0 parents) && is_well_formed parents own

-- a node, as another one stands on it
abbrev pub as_parent : Node → Parent
as_parent n = record { rank = n.rank; name = n.own.name; columns = columns_of n.own }

-- a node stands at each of these places
abbrev pub are_places : List Node → List ℕ → Bool
are_places nodes places = list_all (λ i. is_some (slice_get nodes i)) places

-- the nodes at these places, as parents
abbrev pub parent_at : Option Node → List Parent
parent_at None = []
parent_at (Some n) = as_parent n ∷ []

abbrev pub parents_at : List Node → List ℕ → List Parent
parents_at nodes places = flat_map (λ i. parent_at (slice_get nodes i)) places

-- a node stands on those at the places of its parents
abbrev pub is_fit : List Node → Node → Bool
is_fit nodes n = are_places nodes n.parents && stands_on (parents_at nodes n.parents) n.rank n.own

-- nodes stand by rank, and then by name
abbrev pub node_cmp : Node → Node → Ordering
node_cmp a b = ordering_then (nat_cmp a.rank b.rank) (name_cmp a.own.name b.own.name)

abbrev pub node_itself : Node → Node
node_itself n = n

-- some node has this name
abbrev pub has_node : List Node → Name → Bool
has_node nodes name = list_any (λ (n : Node). is_eq (name_cmp n.own.name name)) nodes

-- no two nodes have one name
abbrev pub have_distinct_names : List Node → Bool
have_distinct_names [] = true
have_distinct_names (n ∷ ns) = not (has_node ns n.own.name) && have_distinct_names ns

abbrev pub are_fit : List Node → List Node → Bool
are_fit all nodes = list_all (is_fit all) nodes

-- at most 4,096 models, by rank and name, of distinct names, each of which fits its parents
abbrev pub is_proper : List Node → Bool
is_proper nodes =
    nat_le (length nodes) 4096
    && (ascends node_cmp node_itself nodes && (have_distinct_names nodes && are_fit nodes nodes))

-- what a project is seen as
pub record ProjectNodes : Type 0 where
  pub nodes : List Node
