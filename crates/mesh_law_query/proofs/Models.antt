-- A model's rows are one bag where its sources' are.
use Rattle.std.proofs.Common.{◌≡◌, Bool, true, false, cond, List, [], ◌∷◌, ◌++◌, map, refl, ap}
use Rattle.std.specs.List.{AllZip, find, flat_map}
use Rattle.std.specs.Ordering.{is_eq}
use Rattle.std.specs.declared.option.Option.TheVariants.{Some}
use Rattle.std.proofs.lemmas.List.Elements.{All-weaker}
use Rattle.mesh_base_values.specs.Bag.{IsSameBag}
use Rattle.mesh_base_values.specs.Names.{name_cmp}
use Rattle.mesh_base_values.specs.declared.times.Bounds.{Bounds}
use Rattle.mesh_base_values.specs.declared.values.Name.{Name}
use Rattle.mesh_base.specs.declared.jobs.Input.{Input}
use Rattle.mesh_base.specs.declared.definitions.Decl.{Decl}
use Rattle.mesh_base.specs.declared.definitions.Defn.{Defn}
use Rattle.mesh_base.specs.declared.definitions.Defn.TheVariants.{Seed, Sql}
use Rattle.mesh_base_values.specs.Kinds.{is_incremental}
use Rattle.mesh_base.specs.declared.definitions.Own.{Own}
use Rattle.mesh_base.specs.rules.Proper.{defn_names}
use Rattle.mesh_spec_query.specs.Tables.{rows_in}
use Rattle.mesh_spec_model.specs.Closures.{Closure, Closures, Model, Alone, With, own_of, standing, ancestors}
use Rattle.mesh_spec_model.specs.Horizons.{Clock, schedule}
use Rattle.mesh_spec_model.specs.Sources.{declared, inputs}
use Rattle.mesh_spec_model.specs.Scratch.{no_bounds, defn_rows, is_of_unit, piece, piece_over, rows_over, from_scratch, tables}
use Rattle.mesh_law_query.specs.Alike.{named, IsSameTable, AreSameTables}
use Rattle.mesh_law_query.specs.Loads.{HasSameSources, HaveSameSources}
use Rattle.mesh_law_query.proofs.Lists.{Each, each, Each_left, Each_right, Each_imp}
use Rattle.mesh_law_query.proofs.Perm.{Perm, nil, same, filtered, flat_each}
use Rattle.mesh_law_query.proofs.Zips.{zip_append}
use Rattle.mesh_law_query.proofs.Bags.{IsSame, Named_same, sel_same, counts_same, bag_is_perm}

-- tables of one name and the same columns, with one bag of rows
record IsOne (x y : Input) : Type 0 where
  name : x.name ≡ y.name
  columns : x.columns ≡ y.columns
  rows : Perm x.rows y.rows

found_same : (name : Name) (xs ys : List Input) → AllZip IsOne xs ys → IsSame (find (λ input. is_eq (name_cmp input.name name)) xs) (find (λ input. is_eq (name_cmp input.name name)) ys)
found_same name [] [] z = record { columns = refl; rows = nil }
found_same name [] (y ∷ ys) z = absurd z
found_same name (x ∷ xs) [] z = absurd z
found_same name (x ∷ xs) (y ∷ ys) z = go (is_eq (name_cmp x.name name)) (is_eq (name_cmp y.name name)) (ap (λ n. is_eq (name_cmp n name)) z.0.name) (found_same name xs ys z.1)
  where
    go : (b c : Bool) → b ≡ c → IsSame (find (λ input. is_eq (name_cmp input.name name)) xs) (find (λ input. is_eq (name_cmp input.name name)) ys)
        → IsSame (cond b (Some x) (find (λ input. is_eq (name_cmp input.name name)) xs)) (cond c (Some y) (find (λ input. is_eq (name_cmp input.name name)) ys))
    go true true e h = record { columns = z.0.columns; rows = z.0.rows }
    go false false e h = h
    go true false e h = absurd (cc)
    go false true e h = absurd (cc)

each_named : (a b : List Input) → AllZip IsOne a b → (u : Bounds) (all : List Name) → Each (Named_same u a b) all
each_named a b z u [] = tt
each_named a b z u (n ∷ all) = (found_same n a b z, each_named a b z u all)

defn_same : (a b : List Input) (d : Defn) (u : Bounds) → Each (Named_same u a b) (defn_names d) → Perm (defn_rows d a u) (defn_rows d b u)
defn_same a b (Seed columns rows) u h = same rows
defn_same a b (Sql q) u h = sel_same u a b q h

module _ (a b : List Input) (own : Own) (h : (u : Bounds) → Each (Named_same u a b) (defn_names own.defn)) where
  piece_same : (u : Bounds) → Perm (piece_over own a u) (piece_over own b u)
  piece_same u = filtered (is_of_unit own u) (defn_same a b own.defn u (h u))

  over_same : (units : List Bounds) → Perm (rows_over own a units) (rows_over own b units)
  over_same units = go (is_incremental own.kind)
    where
      go : (i : Bool) → Perm (cond i (flat_map (piece_over own a) units) (defn_rows own.defn a no_bounds)) (cond i (flat_map (piece_over own b) units) (defn_rows own.defn b no_bounds))
      go true = flat_each (piece_over own a) (piece_over own b) piece_same units
      go false = defn_same a b own.defn no_bounds (h no_bounds)

module _ (a b : List Input) where
  sources_same : (ds : List Decl) → Each (λ (d : Decl). IsSameBag (declared a d).rows (declared b d).rows) ds → AllZip IsOne (map (declared a) ds) (map (declared b) ds)
  sources_same [] h = tt
  sources_same (d ∷ ds) h = (record { name = refl; columns = refl; rows = bag_is_perm (declared a d).rows (declared b d).rows h.0 }, sources_same ds h.1)

  inputs_same : (own : Own) → HasSameSources a b own → (ts us : List Input) → AllZip IsOne ts us → AllZip IsOne (inputs a own ts) (inputs b own us)
  inputs_same own h ts us z = zip_append IsOne (map (declared a) own.sources) (map (declared b) own.sources) ts us (sources_same own.sources (each _ own.sources h)) z

  module _ (clock : Clock) where
    abbrev Sources_same : Closure → Type 0
    Sources_same s = HasSameSources a b (own_of s)

    mutual
      model_same : (c : Closure) → Each Sources_same (standing c) → Perm (from_scratch a clock c) (from_scratch b clock c)
      model_same (Model own parents) h =
          over_same (inputs a own (tables a clock parents)) (inputs b own (tables b clock parents)) own
          (λ u. each_named (inputs a own (tables a clock parents)) (inputs b own (tables b clock parents))
          (inputs_same own h.0 (tables a clock parents) (tables b clock parents) (tables_same parents h.1)) u (defn_names own.defn)) (schedule clock (Model own parents))

      tables_same : (cs : Closures) → Each Sources_same (ancestors cs) → AllZip IsOne (tables a clock cs) (tables b clock cs)
      tables_same Alone h = tt
      tables_same (With c cs) h =
          (record { name = refl; columns = refl; rows = model_same c (Each_left Sources_same (standing c) (ancestors cs) h) }, tables_same cs (Each_right Sources_same (standing c) (ancestors cs) h))

    unit_same : (c : Closure) → Each Sources_same (standing c) → (u : Bounds) → Perm (piece a clock c u) (piece b clock c u)
    unit_same (Model own parents) h u =
        piece_same (inputs a own (tables a clock parents)) (inputs b own (tables b clock parents)) own
        (λ u. each_named (inputs a own (tables a clock parents)) (inputs b own (tables b clock parents))
        (inputs_same own h.0 (tables a clock parents) (tables b clock parents) (tables_same parents h.1)) u (defn_names own.defn)) u

pub model_bag : (a b : List Input) (c : Closure) → HaveSameSources a b c → (clock : Clock) → IsSameBag (from_scratch a clock c) (from_scratch b clock c)
model_bag a b c h clock = counts_same (model_same a b clock c (each (λ s. HasSameSources a b (own_of s)) (standing c) h))

pub unit_bag : (a b : List Input) (c : Closure) → HaveSameSources a b c → (clock : Clock) (u : Bounds) → IsSameBag (piece a clock c u) (piece b clock c u)
unit_bag a b c h clock u = counts_same (unit_same a b clock c (each (λ s. HasSameSources a b (own_of s)) (standing c) h) u)

-- the same, of one model over the tables that it reads
names_same : (a b : List Input) (all : List Name) → AreSameTables all a b → (u : Bounds) → Each (Named_same u a b) all
names_same a b all h u =
    Each_imp (λ name. IsSameTable (named a name) (named b name)) (Named_same u a b) (λ name s. record { columns = s.0; rows = bag_is_perm (rows_in (named a name)) (rows_in (named b name)) s.1 }) all (each _ all h)

pub step_bag : (a b : List Input) (own : Own) → AreSameTables (defn_names own.defn) a b → (units : List Bounds) → IsSameBag (rows_over own a units) (rows_over own b units)
step_bag a b own h units = counts_same (over_same a b own (names_same a b (defn_names own.defn) h) units)

pub piece_bag : (a b : List Input) (own : Own) → AreSameTables (defn_names own.defn) a b → (u : Bounds) → IsSameBag (piece_over own a u) (piece_over own b u)
piece_bag a b own h u = counts_same (piece_same a b own (names_same a b (defn_names own.defn) h) u)

-- what a definition reads, over sources and tables that it can't tell apart
one_named : (a b : List Input) (ds : List Decl) → Each (λ (d : Decl). IsSameBag (declared a d).rows (declared b d).rows) ds → (ts us : List Input) (name : Name) → IsSameTable (named ts name) (named us name)
    → IsSameTable (named (map (declared a) ds ++ ts) name) (named (map (declared b) ds ++ us) name)
one_named a b [] h ts us name s = s
one_named a b (d ∷ ds) h ts us name s = go (is_eq (name_cmp d.name name)) (one_named a b ds h.1 ts us name s)
  where
    go : (i : Bool) → IsSameTable (named (map (declared a) ds ++ ts) name) (named (map (declared b) ds ++ us) name)
        → IsSameTable (cond i (Some (declared a d)) (named (map (declared a) ds ++ ts) name)) (cond i (Some (declared b d)) (named (map (declared b) ds ++ us) name))
    go true ih = (refl, h.0)
    go false ih = ih

pub inputs_bag : (a b : List Input) (own : Own) → HasSameSources a b own → (ts us : List Input) → AreSameTables (defn_names own.defn) ts us → AreSameTables (defn_names own.defn) (inputs a own ts) (inputs b own us)
inputs_bag a b own h ts us s =
    All-weaker (λ name. IsSameTable (named ts name) (named us name)) (λ name. IsSameTable (named (inputs a own ts) name) (named (inputs b own us) name)) (λ name k. one_named a b own.sources (each _ own.sources h) ts us name k) (defn_names own.defn) s
