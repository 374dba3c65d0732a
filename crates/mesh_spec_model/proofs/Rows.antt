-- What a model's rows are, by its kind.
use Rattle.std.proofs.Common.{◌≡◌, ℕ, Bool, true, false, cond, ◌||◌, List, [], ◌∷◌, ◌++◌, map, refl, ap, sym, ◌∙◌, subst}
use Rattle.std.specs.List.{All, filter, flat_map, list_any}
use Rattle.std.proofs.lemmas.List.Elements.{All-nil, All-cons, All-append, All-weaker}
use Rattle.mesh_base_values.specs.declared.times.Bounds.{Bounds}
use Rattle.mesh_base.specs.declared.definitions.Own.{Own}
use Rattle.mesh_base_values.specs.declared.kinds.Kind.{Kind}
use Rattle.mesh_base_values.specs.declared.kinds.Kind.TheVariants.{Full, View, Seed as SeedKind, Incremental}
use Rattle.mesh_base_values.specs.Kinds.{is_incremental, time_column}
use Rattle.std.specs.declared.option.Option.TheVariants.{None, Some}
use Rattle.mesh_base.specs.declared.definitions.Defn.TheVariants.{Seed, Sql}
use Rattle.mesh_base.specs.declared.queries.Query.{Query}
use Rattle.mesh_base.specs.declared.jobs.Input.{Input}
use Rattle.mesh_base_values.specs.declared.values.Cell.{Cell}
use Rattle.mesh_base_values.specs.declared.values.Column.{Column}
use Rattle.mesh_base.specs.Outputs.{columns_of, defn_columns}
use Rattle.mesh_spec_query.specs.Sel.{Sel}
use Rattle.mesh_spec_model.specs.Closures.{Closure, Closures, Model, Alone, With, own_of}
use Rattle.mesh_spec_model.specs.Horizons.{Clock, schedule}
use Rattle.mesh_time_days.specs.seconds.Times.{lies_in}
use Rattle.mesh_spec_model.specs.Sources.{declared}
use Rattle.mesh_spec_model.specs.Scratch.{from_scratch, inputs_of, no_bounds, defn_rows, lies_by, piece, piece_over, tables}

-- what isn't incremental has the rows of its definition
at_once : (sources : List Input) (clock : Clock) (own : Own) (parents : Closures) → is_incremental own.kind ≡ false
    → from_scratch sources clock (Model own parents) ≡ defn_rows own.defn (inputs_of sources clock (Model own parents)) no_bounds
at_once sources clock own parents k =
    ap (λ b. cond b (flat_map (piece sources clock (Model own parents)) (schedule clock (Model own parents))) (defn_rows own.defn (inputs_of sources clock (Model own parents)) no_bounds)) k

pub seeds : (sources : List Input) (clock : Clock) (own : Own) (parents : Closures) (columns : List Column) (rows : List (List Cell)) → own.kind ≡ SeedKind → own.defn ≡ Seed columns rows
    → from_scratch sources clock (Model own parents) ≡ rows
seeds sources clock own parents columns rows k d = at_once sources clock own parents (ap is_incremental k) ∙ ap (λ d. defn_rows d (inputs_of sources clock (Model own parents)) no_bounds) d

pub views : (sources : List Input) (clock : Clock) (own : Own) (parents : Closures) (q : Query) → own.kind ≡ View → own.defn ≡ Sql q
    → from_scratch sources clock (Model own parents) ≡ Sel q (inputs_of sources clock (Model own parents)) no_bounds
views sources clock own parents q k d = at_once sources clock own parents (ap is_incremental k) ∙ ap (λ d. defn_rows d (inputs_of sources clock (Model own parents)) no_bounds) d

pub fulls : (sources : List Input) (clock : Clock) (own : Own) (parents : Closures) (q : Query) → own.kind ≡ Full → own.defn ≡ Sql q
    → from_scratch sources clock (Model own parents) ≡ Sel q (inputs_of sources clock (Model own parents)) no_bounds
fulls sources clock own parents q k d = at_once sources clock own parents (ap is_incremental k) ∙ ap (λ d. defn_rows d (inputs_of sources clock (Model own parents)) no_bounds) d

timed : (kind : Kind) (time : List ℕ) → time_column kind ≡ Some time → is_incremental kind ≡ true
timed (Incremental time lookback) name e = refl
timed Full name e = absurd (cc)
timed View name e = absurd (cc)
timed SeedKind name e = absurd (cc)

pub incrementals : (sources : List Input) (clock : Clock) (own : Own) (parents : Closures) (time : List ℕ) → time_column own.kind ≡ Some time
    → from_scratch sources clock (Model own parents) ≡ flat_map (piece sources clock (Model own parents)) (schedule clock (Model own parents))
incrementals sources clock own parents time k =
    ap (λ b. cond b (flat_map (piece sources clock (Model own parents)) (schedule clock (Model own parents))) (defn_rows own.defn (inputs_of sources clock (Model own parents)) no_bounds)) (timed own.kind time k)

pub pieces : (sources : List Input) (clock : Clock) (c : Closure) (u : Bounds) (time : List ℕ) → time_column (own_of c).kind ≡ Some time
    → piece sources clock c u ≡ filter (lies_in (columns_of (own_of c)) time u) (defn_rows (own_of c).defn (inputs_of sources clock c) u)
pieces sources clock c u time k = ap (λ o. filter (lies_by o (columns_of (own_of c)) u) (defn_rows (own_of c).defn (inputs_of sources clock c) u)) k

none_lies : (columns : List Column) (u : Bounds) (rows : List (List Cell)) → filter (lies_by None columns u) rows ≡ []
none_lies columns u [] = refl
none_lies columns u (r ∷ rs) = none_lies columns u rs

pub untimed : (sources : List Input) (clock : Clock) (c : Closure) (u : Bounds) → time_column (own_of c).kind ≡ None → piece sources clock c u ≡ []
untimed sources clock c u k =
    ap (λ o. filter (lies_by o (columns_of (own_of c)) u) (defn_rows (own_of c).defn (inputs_of sources clock c) u)) k ∙ none_lies (columns_of (own_of c)) u (defn_rows (own_of c).defn (inputs_of sources clock c) u)

-- a FULL model that reads one seed and nothing else
pub full_over_seed : (sources : List Input) (clock : Clock) (own seed : Own) (q : Query) (columns : List Column) (rows : List (List Cell)) → own.kind ≡ Full → own.defn ≡ Sql q → own.sources ≡ [] → seed.kind ≡ SeedKind → seed.defn ≡ Seed columns rows
    → from_scratch sources clock (Model own (With (Model seed Alone) Alone)) ≡ Sel q (record { name = seed.name; columns = columns; rows = rows } ∷ []) no_bounds
full_over_seed sources clock own seed q columns rows k d s sk sd =
    fulls sources clock own (With (Model seed Alone) Alone) q k d
    ∙ ap (λ l. Sel q (map (declared sources) l ++ tables sources clock (With (Model seed Alone) Alone)) no_bounds) s
    ∙ (λ i. Sel q (record { name = seed.name; columns = of_defn i; rows = seeds sources clock seed Alone columns rows sk sd i } ∷ []) no_bounds)
  where
    of_defn : columns_of seed ≡ columns
    of_defn = ap defn_columns sd

-- an incremental model's rows lie in its schedule
lie_in : (columns : List Column) (time : List ℕ) (u : Bounds) (rows : List (List Cell)) → All (λ row. lies_in columns time u row ≡ true) (filter (lies_in columns time u) rows)
lie_in columns time u [] = All-nil (λ row. lies_in columns time u row ≡ true)
lie_in columns time u (r ∷ rs) = go (lies_in columns time u r) refl (lie_in columns time u rs)
  where
    go : (b : Bool) → lies_in columns time u r ≡ b → All (λ row. lies_in columns time u row ≡ true) (filter (lies_in columns time u) rs)
        → All (λ row. lies_in columns time u row ≡ true) (cond b (r ∷ filter (lies_in columns time u) rs) (filter (lies_in columns time u) rs))
    go true e h = All-cons (λ row. lies_in columns time u row ≡ true) r (filter (lies_in columns time u) rs) e h
    go false e h = h

lie_in_one : (own : Own) (time : List ℕ) → time_column own.kind ≡ Some time → (inputs : List Input) (us : List Bounds)
    → All (λ row. list_any (λ u. lies_in (columns_of own) time u row) us ≡ true) (flat_map (piece_over own inputs) us)
lie_in_one own time k inputs [] = All-nil (λ row. false ≡ true)
lie_in_one own time k inputs (u ∷ us) =
    let P : List Cell → Type 0 = λ row. list_any (λ u. lies_in (columns_of own) time u row) (u ∷ us) ≡ true in
    let is : piece_over own inputs u ≡ filter (lies_in (columns_of own) time u) (defn_rows own.defn inputs u) = ap (λ o. filter (lies_by o (columns_of own) u) (defn_rows own.defn inputs u)) k in
    All-append P (piece_over own inputs u) (flat_map (piece_over own inputs) us)
    (subst (λ rows. All P rows) (sym is)
    (All-weaker (λ row. lies_in (columns_of own) time u row ≡ true) P (λ row h. ap (λ b. b || list_any (λ u. lies_in (columns_of own) time u row) us) h) (filter (lies_in (columns_of own) time u) (defn_rows own.defn inputs u)) (lie_in (columns_of own) time u (defn_rows own.defn inputs u))))
    (All-weaker (λ row. list_any (λ u. lies_in (columns_of own) time u row) us ≡ true) P (λ row h. later (lies_in (columns_of own) time u row) (list_any (λ u. lies_in (columns_of own) time u row) us) h) (flat_map (piece_over own inputs) us) (lie_in_one own time k inputs us))
  where
    later : (b m : Bool) → m ≡ true → (b || m) ≡ true
    later true m k = refl
    later false m k = k

pub in_schedule : (sources : List Input) (clock : Clock) (own : Own) (parents : Closures) (time : List ℕ) → time_column own.kind ≡ Some time
    → All (λ row. list_any (λ u. lies_in (columns_of own) time u row) (schedule clock (Model own parents)) ≡ true) (from_scratch sources clock (Model own parents))
in_schedule sources clock own parents time k =
    let P : List (List Cell) → Type 0 = λ rows. All (λ row. list_any (λ u. lies_in (columns_of own) time u row) (schedule clock (Model own parents)) ≡ true) rows in
    subst P (sym (incrementals sources clock own parents time k)) (lie_in_one own time k (inputs_of sources clock (Model own parents)) (schedule clock (Model own parents)))
