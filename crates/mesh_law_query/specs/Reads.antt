-- The columns that a definition reads.
use Rattle.std.specs.Prelude.{◌≡◌, ℕ, Bool, List, [], ◌∷◌, ◌++◌, ◌⊎◌, map, filter}
use Rattle.std.specs.List.{Contains, flat_map, slice_get}
use Rattle.std.specs.Option.{option_to_list}
use Rattle.std.specs.Ordering.{is_eq, ordering_then}
use Rattle.std.specs.declared.cmp.Ordering.{Ordering}
use Rattle.std.specs.declared.option.Option.{Option}
use Rattle.std.specs.declared.option.Option.TheVariants.{None, Some}
use Rattle.mesh_list.specs.Keyed.{placed}
use Rattle.mesh_base_values.specs.Names.{name_cmp, text_cmp}
use Rattle.mesh_base_values.specs.declared.values.Name.{Name}
use Rattle.mesh_base.specs.declared.definitions.Defn.{Defn}
use Rattle.mesh_base.specs.declared.definitions.Defn.TheVariants.{Seed, Sql}
use Rattle.mesh_base.specs.declared.definitions.Own.{Own}
use Rattle.mesh_base.specs.declared.definitions.Reading.{Reading}
use Rattle.mesh_base.specs.declared.expressions.Expr.{Expr}
use Rattle.mesh_base.specs.declared.queries.Item.{Item}
use Rattle.mesh_base.specs.declared.queries.FromItem.{FromItem}
use Rattle.mesh_base.specs.declared.queries.Rel.{Rel}
use Rattle.mesh_base.specs.declared.queries.Rel.TheVariants.{Named, Cte}
use Rattle.mesh_base.specs.declared.queries.Select.{Select}
use Rattle.mesh_base.specs.declared.queries.Query.{Query}
use Rattle.mesh_spec_query.specs.Named.{Place, columns}

-- the ON conditions of a FROM
abbrev pub on_of : List FromItem → List Expr
on_of from = flat_map (λ (f : FromItem). option_to_list f.on) from

-- the expressions of a SELECT: its items, ON, WHERE, keys and HAVING
abbrev pub expressions : Select → List Expr
expressions s = map (λ (i : Item). i.expr) s.items ++ (on_of s.from ++ (option_to_list s.filter ++ (s.keys ++ option_to_list s.having)))

-- a column of what a FROM item reads, where that is a model or a source
abbrev pub rel_reading : List ℕ → Rel → List Reading
rel_reading column (Named name) = record { relation = name; column = column } ∷ []
rel_reading column (Cte at) = []

abbrev pub item_reading : List ℕ → Option FromItem → List Reading
item_reading column None = []
item_reading column (Some f) = rel_reading column f.rel

-- the same of the FROM item at a place
abbrev pub reading_at : List FromItem → Place → List Reading
reading_at from (item, column) = item_reading column (slice_get from item)

abbrev pub select_readings : Select → List Reading
select_readings s = flat_map (reading_at s.from) (flat_map columns (expressions s))

abbrev pub selects_readings : List Select → List Reading
selects_readings selects = flat_map select_readings selects

-- the columns of models and sources that a query names, as often as it does
abbrev pub query_readings : Query → List Reading
query_readings q = flat_map selects_readings q.ctes ++ selects_readings q.selects

-- by relation, and then by column
abbrev pub reading_cmp : Reading → Reading → Ordering
reading_cmp a b = ordering_then (name_cmp a.relation b.relation) (text_cmp a.column b.column)

abbrev pub reading_itself : Reading → Reading
reading_itself r = r

-- in ascending order, each once
abbrev pub in_order : List Reading → List Reading
in_order [] = []
in_order (r ∷ rs) = placed reading_cmp reading_itself r (in_order rs)

-- The columns of models and sources that a definition names anywhere, in ascending order and each once. A seed names
-- none.
abbrev pub defn_readings : Defn → List Reading
defn_readings (Seed columns rows) = []
defn_readings (Sql q) = in_order (query_readings q)

abbrev pub readings : Own → List Reading
readings own = defn_readings own.defn

abbrev pub is_of : Name → Reading → Bool
is_of name r = is_eq (name_cmp r.relation name)

-- those of one relation
abbrev pub defn_reads : Defn → Name → List (List ℕ)
defn_reads d name = map (λ (r : Reading). r.column) (filter (is_of name) (defn_readings d))

-- the columns of a model or a source that a definition names anywhere
abbrev pub reads : Own → Name → List (List ℕ)
reads own name = defn_reads own.defn name

-- an expression stands in a SELECT: in an item, an ON condition, WHERE, a key or HAVING
abbrev pub StandsIn : Select → Expr → Type 0
StandsIn s e =
    ((i : Item) × Contains s.items i × (i.expr ≡ e))
    ⊎ (((f : FromItem) × Contains s.from f × (f.on ≡ Some e))
    ⊎ ((s.filter ≡ Some e) ⊎ (Contains s.keys e ⊎ (s.having ≡ Some e))))

-- a SELECT names a column of a relation: some expression does, at the place of a FROM item that reads that relation
abbrev pub NamesColumn : Select → Reading → Type 0
NamesColumn s r =
    (e : Expr) × StandsIn s e × ((item : ℕ) × Contains (columns e) (item, r.column) × ((f : FromItem) × (slice_get s.from item ≡ Some f) × (f.rel ≡ Named r.relation)))

-- a SELECT of a query, or of one of its CTEs
abbrev pub IsSelectOf : Query → Select → Type 0
IsSelectOf q s = ((c : List Select) × Contains q.ctes c × Contains c s) ⊎ Contains q.selects s

-- some SELECT of a definition names a column of a relation
abbrev pub IsRead : Defn → Reading → Type 0
IsRead (Seed columns rows) r = ⊥
IsRead (Sql q) r = (s : Select) × IsSelectOf q s × NamesColumn s r
