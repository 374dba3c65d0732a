-- The columns that hang on one: what is known of the models so far, one model at a time.
use Rattle.std.specs.Prelude.{◌≡◌, ◌↔◌, ℕ, Bool, false, ◌&&◌, ◌||◌, List, [], ◌∷◌, map, IsTrue}
use Rattle.std.specs.List.{Contains, filter, list_any, slice_get}
use Rattle.std.specs.Ordering.{is_eq}
use Rattle.std.specs.declared.option.Option.{Option}
use Rattle.std.specs.declared.option.Option.TheVariants.{None, Some}
use Rattle.mesh_base_values.specs.Names.{name_cmp}
use Rattle.mesh_base_values.specs.Picked.{same_text}
use Rattle.mesh_base_values.specs.declared.values.Column.{Column}
use Rattle.mesh_base_values.specs.declared.values.Name.{Name}
use Rattle.mesh_base.specs.Outputs.{columns_of}
use Rattle.mesh_base.specs.declared.definitions.Own.{Own}
use Rattle.mesh_base.specs.declared.definitions.Reading.{Reading}
use Rattle.mesh_base.specs.declared.snapshots.Node.{Node}
use Rattle.mesh_spec_model.specs.Closures.{Closure, own_of}
use Rattle.mesh_trace.specs.declared.hits.Hit.{Hit}
use Rattle.mesh_trace.specs.declared.traces.Trace.{Trace}
use Rattle.mesh_trace.specs.Feeds.{feeds, needs, with_column}

-- the names of a model's columns
abbrev pub column_names : Own → List (List ℕ)
column_names own = map (λ (c : Column). c.name) (columns_of own)

-- a column of a model, as others would list it
abbrev pub column_trace : Name → List ℕ → Trace
column_trace name column = record { relation = name; column = Some column }

-- it is a column of one of these models, and its trace has the source
abbrev pub IsFedBy : List Closure → Reading → Trace → Type 0
IsFedBy cs source t =
    (c : Closure) × Contains cs c
    × ((column : List ℕ) × Contains (column_names (own_of c)) column × (column_trace (own_of c).name column ≡ t) × Contains (feeds c (column ∷ [])) (with_column source))

-- a column is among those that are fed
abbrev pub hit_has : Hit → List ℕ → Bool
hit_has h column = h.all || list_any (λ n. same_text n column) h.columns

-- what is known of a model: whether all its columns are fed by the source, whatever they are, and which are
abbrev pub IsHit : Reading → Closure → Hit → Type 0
IsHit source c h =
    (IsTrue h.all ↔ Contains (feeds c []) (with_column source))
    × ((column : List ℕ) → IsTrue (hit_has h column) ↔ Contains (feeds c (column ∷ [])) (with_column source))
    × ((column : List ℕ) → Contains h.columns column ↔ (Contains (column_names (own_of c)) column × Contains (feeds c (column ∷ [])) (with_column source)))

-- a reading is the source
abbrev pub is_source : Reading → Reading → Bool
is_source source r = is_eq (name_cmp r.relation source.relation) && same_text r.column source.column

-- a reading is a column of a parent that is fed by it
abbrev pub leads_by : Option Node → Option Hit → Reading → Bool
leads_by None h r = false
leads_by (Some n) None r = false
leads_by (Some n) (Some h) r = is_eq (name_cmp r.relation n.own.name) && hit_has h r.column

abbrev pub leads_at : List Node → List Hit → Reading → ℕ → Bool
leads_at nodes hits r place = leads_by (slice_get nodes place) (slice_get hits place) r

abbrev pub leads : List Node → List Hit → List ℕ → Reading → Reading → Bool
leads nodes hits parents source r = is_source source r || list_any (leads_at nodes hits r) parents

-- a parent of whom all columns are fed
abbrev pub all_of : Option Hit → Bool
all_of None = false
all_of (Some h) = h.all

abbrev pub all_at : List Hit → ℕ → Bool
all_at hits place = all_of (slice_get hits place)

-- some columns of a model are fed by the source
abbrev pub is_fed : List Node → List Hit → Node → Reading → List (List ℕ) → Bool
is_fed nodes hits n source wanted = list_any (all_at hits) n.parents || list_any (leads nodes hits n.parents source) (needs n.own wanted)

-- those of its columns that are
abbrev pub fed_columns : List Node → List Hit → Node → Reading → Bool → List (List ℕ)
fed_columns nodes hits n source all = filter (λ column. all || is_fed nodes hits n source (column ∷ [])) (column_names n.own)

-- one model on
abbrev pub node_hit : List Node → List Hit → Node → Reading → Hit
node_hit nodes hits n source = record { all = is_fed nodes hits n source []; columns = fed_columns nodes hits n source (is_fed nodes hits n source []) }

-- so much is known of the models of these closures
abbrev pub AreHits : Reading → List Closure → List Hit → Type 0
AreHits source cs hits = (i : ℕ) (h : Hit) (c : Closure) → slice_get hits i ≡ Some h → slice_get cs i ≡ Some c → IsHit source c h
