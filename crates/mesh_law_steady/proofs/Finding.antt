-- What a definition finds under a name among its sources and parents, and that a steady one needs no rows but those
-- near its unit.
use Rattle.std.proofs.Common.{◌≡◌, ℕ, Bool, true, false, cond, List, [], ◌∷◌, ◌++◌, map, refl, sym, ap, ◌∙◌, subst}
use Rattle.std.specs.List.{filter, find}
use Rattle.std.specs.Ordering.{is_eq}
use Rattle.std.specs.declared.option.Option.{Option}
use Rattle.std.specs.declared.option.Option.TheVariants.{None, Some}
use Rattle.mesh_base_values.specs.Kinds.{time_column}
use Rattle.mesh_base_values.specs.Names.{name_cmp}
use Rattle.mesh_base_values.specs.declared.kinds.Kind.{Kind}
use Rattle.mesh_base_values.specs.declared.kinds.Kind.TheVariants.{Full, View, Seed, Incremental}
use Rattle.mesh_base_values.specs.declared.times.Bounds.{Bounds}
use Rattle.mesh_base_values.specs.declared.values.Cell.{Cell}
use Rattle.mesh_base_values.specs.declared.values.Column.{Column}
use Rattle.mesh_base_values.specs.declared.values.Name.{Name}
use Rattle.mesh_base.specs.Outputs.{columns_of}
use Rattle.mesh_base.specs.declared.definitions.Decl.{Decl}
use Rattle.mesh_base.specs.declared.definitions.Own.{Own}
use Rattle.mesh_base.specs.declared.jobs.Input.{Input}
use Rattle.mesh_base.specs.declared.queries.FromItem.{FromItem}
use Rattle.mesh_base.specs.declared.queries.Select.{Select}
use Rattle.mesh_spec_query.specs.Tables.{columns_in, rows_in}
use Rattle.mesh_spec_model.specs.Closures.{Closure, Closures, Alone, With, own_of}
use Rattle.mesh_spec_model.specs.Horizons.{Clock}
use Rattle.mesh_spec_model.specs.Scratch.{defn_rows, from_scratch, is_of_unit, piece_over, table_of, tables}
use Rattle.mesh_law_query.specs.Alike.{named}
use Rattle.mesh_spec_changes.specs.steady.Steady.{is_defn_bound, is_found_parent_bound, is_parent_bound, is_relation_bound, is_source_bound, parent_named, source_declared}
use Rattle.mesh_law_steady.specs.Days.{IsOfDay}
use Rattle.mesh_law_steady.specs.Near.{inputs_with, near, near_model, near_source, parents_with, source_of}
use Rattle.mesh_law_steady.proofs.Dropping.{Fits, bound_to, same}
use Rattle.mesh_law_steady.proofs.Queries.{NameFits, bound_same}

abbrev Rows : Type 0
Rows = List (List Cell)

-- a declared source, or else a parent
abbrev pub found_with : (Decl → Rows) → (Closure → Rows) → Option Decl → Option Closure → Option Input
found_with sources models (Some d) c = Some (source_of sources d)
found_with sources models None (Some c) = Some (table_of (own_of c) (models c))
found_with sources models None None = None

module _ (sources : Decl → Rows) (models : Closure → Rows) (name : Name) where
  parent_found : (cs : Closures) → named (parents_with models cs) name ≡ found_with sources models None (parent_named cs name)
  parent_found Alone = refl
  parent_found (With c cs) = go (is_eq (name_cmp (own_of c).name name)) (parent_found cs)
    where
      go : (b : Bool) → named (parents_with models cs) name ≡ found_with sources models None (parent_named cs name)
          → cond b (Some (table_of (own_of c) (models c))) (named (parents_with models cs) name) ≡ found_with sources models None (cond b (Some c) (parent_named cs name))
      go true ih = refl
      go false ih = ih

  source_found : (cs : Closures) (ds : List Decl)
      → named (map (source_of sources) ds ++ parents_with models cs) name ≡ found_with sources models (find (λ (d : Decl). is_eq (name_cmp d.name name)) ds) (parent_named cs name)
  source_found cs [] = parent_found cs
  source_found cs (d ∷ ds) = go (is_eq (name_cmp d.name name)) (source_found cs ds)
    where
      go : (b : Bool) → named (map (source_of sources) ds ++ parents_with models cs) name ≡ found_with sources models (find (λ (d : Decl). is_eq (name_cmp d.name name)) ds) (parent_named cs name)
          → cond b (Some (source_of sources d)) (named (map (source_of sources) ds ++ parents_with models cs) name)
          ≡ found_with sources models (cond b (Some d) (find (λ (d : Decl). is_eq (name_cmp d.name name)) ds)) (parent_named cs name)
      go true ih = refl
      go false ih = ih

  pub finds : (own : Own) (parents : Closures) → named (inputs_with sources models own parents) name ≡ found_with sources models (source_declared own name) (parent_named parents name)
  finds own parents = source_found parents own.sources

-- a model's own tables are such
pub tables_are : (sources : List Input) (clock : Clock) (cs : Closures) → tables sources clock cs ≡ parents_with (from_scratch sources clock) cs
tables_are sources clock Alone = refl
tables_are sources clock (With c cs) = ap (λ ts. table_of (own_of c) (from_scratch sources clock c) ∷ ts) (tables_are sources clock cs)

module _ (own : Own) (parents : Closures) (u : Bounds) (of : IsOfDay u) (sources : Decl → Rows) (models : Closure → Rows) where
  abbrev whole : Option Decl → Option Closure → Option Input
  whole = found_with sources models

  abbrev cut : Option Decl → Option Closure → Option Input
  cut = found_with (near_source u sources) (near_model u models)

  -- a table and its near rows, as a FROM item reads them that is bound where there is a time column
  near_fits : (q : Select) (k : ℕ) (f : FromItem) (d : Decl) (time : Option (List ℕ)) (rows : Rows) → is_source_bound q k f time ≡ true → Fits u q k f d.columns rows (near u time d.columns rows)
  near_fits q k f d None rows h = same
  near_fits q k f d (Some time) rows h = bound_to time h

  parent_fits : (q : Select) (k : ℕ) (f : FromItem) (c : Closure) (kind : Kind) (cs : List Column) (rows : Rows) → is_parent_bound q k f c kind ≡ true → Fits u q k f cs rows (near u (time_column kind) cs rows)
  parent_fits q k f c Seed cs rows h = same
  parent_fits q k f c Full cs rows h = same
  parent_fits q k f c View cs rows h = same
  parent_fits q k f c (Incremental time lookback) cs rows h = bound_to time h

  found_columns : (d : Option Decl) (c : Option Closure) → columns_in (whole d c) ≡ columns_in (cut d c)
  found_columns (Some d) c = refl
  found_columns None (Some c) = refl
  found_columns None None = refl

  found_fits : (q : Select) (k : ℕ) (f : FromItem) (name : Name) (d : Option Decl) (c : Option Closure) → parent_named parents name ≡ c → is_relation_bound parents q k f name d ≡ true
      → Fits u q k f (columns_in (whole d c)) (rows_in (whole d c)) (rows_in (cut d c))
  found_fits q k f name (Some d) c e h = near_fits q k f d d.time (sources d) h
  found_fits q k f name None (Some c) e h = parent_fits q k f c (own_of c).kind (columns_of (own_of c)) (models c) (ap (is_found_parent_bound q k f) (sym e) ∙ h)
  found_fits q k f name None None e h = same

  abbrev a : List Input
  a = inputs_with sources models own parents

  abbrev b : List Input
  b = inputs_with (near_source u sources) (near_model u models) own parents

  name_fits : (name : Name) → NameFits own parents u of a b name
  name_fits name =
      let l : whole (source_declared own name) (parent_named parents name) ≡ named a name = sym (finds sources models name own parents) in
      let r : cut (source_declared own name) (parent_named parents name) ≡ named b name = sym (finds (near_source u sources) (near_model u models) name own parents) in (
        sym (ap columns_in l) ∙ found_columns (source_declared own name) (parent_named parents name) ∙ ap columns_in r,
        λ q k f h. subst (λ (p : Option Input × Option Input). Fits u q k f (columns_in p.0) (rows_in p.0) (rows_in p.1)) (λ i. (l i, r i)) (found_fits q k f name (source_declared own name) (parent_named parents name) refl h),
      )

  -- the rows for a unit hang on near rows alone
  pub near_rows_do : is_defn_bound own parents own.defn ≡ true → defn_rows own.defn a u ≡ defn_rows own.defn b u
  near_rows_do h = bound_same own parents u of a b name_fits own.defn h

  pub near_piece : is_defn_bound own parents own.defn ≡ true → piece_over own a u ≡ piece_over own b u
  near_piece h = ap (filter (is_of_unit own u)) (near_rows_do h)
