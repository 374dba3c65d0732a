-- A definition with fewer items shows what is wanted as the whole one does.
use Rattle.std.proofs.Common.{◌≡◌, Bool, true, false, cond, ◌||◌, List, [], ◌∷◌, ◌++◌, map, refl, ap, sym, ◌∙◌}
use Rattle.std.specs.List.{filter, flat_map}
use Rattle.std.specs.declared.option.Option.{Option}
use Rattle.std.specs.declared.option.Option.TheVariants.{None, Some}
use Rattle.std.proofs.lemmas.List.{map-append}
use Rattle.std.proofs.lemmas.Bool.{or_right as later}
use Rattle.mesh_base_values.specs.Kinds.{is_incremental, time_column}
use Rattle.mesh_base_values.specs.Picked.{same_text, cell_of, picked_row}
use Rattle.mesh_base_values.specs.declared.times.Bounds.{Bounds}
use Rattle.mesh_base_values.specs.declared.values.Cell.{Cell}
use Rattle.mesh_base_values.specs.declared.values.Cell.TheVariants.{Null}
use Rattle.mesh_base_values.specs.declared.values.Column.{Column}
use Rattle.mesh_time_days.specs.seconds.Times.{is_within, time_of}
use Rattle.mesh_base.specs.Outputs.{item_columns, select_columns, defn_columns, columns_of}
use Rattle.mesh_base.specs.declared.definitions.Defn.{Defn}
use Rattle.mesh_base.specs.declared.definitions.Defn.TheVariants.{Seed, Sql}
use Rattle.mesh_base.specs.declared.definitions.Own.{Own}
use Rattle.mesh_base.specs.declared.jobs.Input.{Input}
use Rattle.mesh_base.specs.declared.queries.Item.{Item}
use Rattle.mesh_base.specs.declared.queries.Select.{Select}
use Rattle.mesh_spec_query.specs.Ev.{Ev}
use Rattle.mesh_spec_query.specs.Sel.{Joined, Group, holds, row_scope, row_holds, from_columns, from_rows, groups, group_scope, item_row, group_row, made_rows, union_rows, cte_inputs}
use Rattle.mesh_spec_model.specs.Scratch.{no_bounds, defn_rows, lies_by, is_of_unit, piece_over, rows_over, table_of}
use Rattle.mesh_law_query.specs.Cuts.{cut}
use Rattle.mesh_law_query.proofs.ReadColumns.{Str, among, text_is, text_self}
use Rattle.mesh_law_query.proofs.Lists.{Each}
use Rattle.mesh_law_query.proofs.Reading.{Row}
use Rattle.mesh_spec_changes.specs.reuse.Cores.{is_time, is_wanted, pruned_selects, pruned_defn, pruned_own}

-- a filter on what is made of elements
filter_map : {X Y : Type 0} (f : X → Y) (p : X → Bool) (q : Y → Bool) → ((x : X) → p x ≡ q (f x)) → (xs : List X) → map f (filter p xs) ≡ filter q (map f xs)
filter_map f p q h [] = refl
filter_map f p q h (x ∷ xs) = go (p x) (q (f x)) (h x) (filter_map f p q h xs)
  where
    go : (a b : Bool) → a ≡ b → map f (filter p xs) ≡ filter q (map f xs) → map f (cond a (x ∷ filter p xs) (filter p xs)) ≡ cond b (f x ∷ filter q (map f xs)) (filter q (map f xs))
    go true true e ih = ap (λ l. f x ∷ l) ih
    go false false e ih = ih
    go true false e ih = absurd (cc)
    go false true e ih = absurd (cc)

maps_same : {X Y Z : Type 0} (f g : Y → Z) (a b : X → Y) → ((x : X) → f (a x) ≡ g (b x)) → (xs : List X) → map f (map a xs) ≡ map g (map b xs)
maps_same f g a b same [] = refl
maps_same f g a b same (x ∷ xs) = λ i. same x i ∷ maps_same f g a b same xs i

flat_same : {X Y Z : Type 0} (f g : Y → Z) (a b : X → List Y) → ((x : X) → map f (a x) ≡ map g (b x)) → (xs : List X) → map f (flat_map a xs) ≡ map g (flat_map b xs)
flat_same f g a b same [] = refl
flat_same f g a b same (x ∷ xs) =
    map-append f (a x) (flat_map a xs) ∙ (λ i. same x i ++ flat_same f g a b same xs i) ∙ sym (map-append g (b x) (flat_map b xs))

-- a row as it shows under its columns, without what isn't kept
abbrev pub shown : (Str → Bool) → List Column → Row → Str → Cell
shown k columns row c = cond (k c) (cell_of columns row c) Null

-- a name is wanted, or is that of the time column
abbrev pub is_kept : List Str → Option Str → Str → Bool
is_kept wanted time c = among wanted c || is_time time c

module _ (wanted : List Str) (time : Option Str) where
  abbrev k : Str → Bool
  k = is_kept wanted time

  abbrev fewer : List Item → List Item
  fewer items = filter (is_wanted wanted time) items

  pick_cases : (x : Item) (c : Str) → k c ≡ true → (b : Bool) → k x.name ≡ b → (v : Bool) → same_text x.name c ≡ v → (g : Item → Cell) (xs ys : List Item)
      → cell_of (item_columns xs) (map g xs) c ≡ cell_of (item_columns ys) (map g ys) c
      → cell_of (item_columns (cond b (x ∷ xs) xs)) (map g (cond b (x ∷ xs) xs)) c ≡ cond v (g x) (cell_of (item_columns ys) (map g ys) c)
  pick_cases x c h true e v w g xs ys ih = (λ i. cond (w i) (g x) (ih i))
  pick_cases x c h false e true w g xs ys ih = let n : x.name ≡ c = text_is x.name c w in let m : k c ≡ false = ap k (sym n) ∙ e in absurd (cc)
  pick_cases x c h false e false w g xs ys ih = ih

  kept_cell : (g : Item → Cell) (items : List Item) (c : Str) → k c ≡ true
      → cell_of (item_columns (fewer items)) (map g (fewer items)) c ≡ cell_of (item_columns items) (map g items) c
  kept_cell g [] c h = refl
  kept_cell g (x ∷ items) c h = pick_cases x c h (k x.name) refl (same_text x.name c) refl g (fewer items) items (kept_cell g items c h)

  kept_shown : (g : Item → Cell) (items : List Item) → shown k (item_columns items) (map g items) ≡ shown k (item_columns (fewer items)) (map g (fewer items))
  kept_shown g items = λ i c. go c (k c) refl i
    where
      go : (c : Str) (b : Bool) → k c ≡ b → cond b (cell_of (item_columns items) (map g items) c) Null ≡ cond b (cell_of (item_columns (fewer items)) (map g (fewer items)) c) Null
      go c true e = sym (kept_cell g items c e)
      go c false e = refl

  module _ (u : Bounds) where
    group_shown : (columns : List (List Column)) (s : Select) (g : Group)
        → map (shown k (item_columns s.items)) (group_row u columns s g) ≡ map (shown k (item_columns (fewer s.items))) (group_row u columns (record s { items = fewer s.items }) g)
    group_shown columns s g = go (holds s.having (group_scope u columns s.keys g))
      where
        go : (b : Bool) → map (shown k (item_columns s.items)) (cond b (item_row s.items (group_scope u columns s.keys g) ∷ []) [])
            ≡ map (shown k (item_columns (fewer s.items))) (cond b (item_row (fewer s.items) (group_scope u columns s.keys g) ∷ []) [])
        go true = λ i. kept_shown (λ item. Ev item.expr (group_scope u columns s.keys g)) s.items i ∷ []
        go false = refl

    made_shown : (columns : List (List Column)) (s : Select) (rows : List Joined)
        → map (shown k (item_columns s.items)) (made_rows u columns s rows) ≡ map (shown k (item_columns (fewer s.items))) (made_rows u columns (record s { items = fewer s.items }) rows)
    made_shown columns s rows = go s.grouped
      where
        go : (b : Bool) → map (shown k (item_columns s.items)) (cond b (flat_map (group_row u columns s) (groups u columns s.keys rows)) (map (λ row. item_row s.items (row_scope u columns row)) rows))
            ≡ map (shown k (item_columns (fewer s.items)))
            (cond b (flat_map (group_row u columns (record s { items = fewer s.items })) (groups u columns s.keys rows)) (map (λ row. item_row (fewer s.items) (row_scope u columns row)) rows))
        go true = flat_same _ _ (group_row u columns s) (group_row u columns (record s { items = fewer s.items })) (group_shown columns s) (groups u columns s.keys rows)
        go false = maps_same _ _ _ _ (λ row. kept_shown (λ item. Ev item.expr (row_scope u columns row)) s.items) rows

    module _ (inputs : List Input) where
      one_shown : (ctes : List Input) (s : Select) (b : Bool) → s.distinct ≡ b
          → map (shown k (select_columns (s ∷ []))) (union_rows inputs u ctes (s ∷ []))
          ≡ map (shown k (select_columns (cond b s (record s { items = fewer s.items }) ∷ []))) (union_rows inputs u ctes (cond b s (record s { items = fewer s.items }) ∷ []))
      one_shown ctes s true e = refl
      one_shown ctes s false e =
          let columns = from_columns inputs ctes s.from in
          let rows = filter (row_holds u columns s.filter) (from_rows u columns inputs ctes s.from) in
          let less : Select = record s { items = fewer s.items } in
          let whole = made_rows u columns s rows in
          let cut_rows = made_rows u columns less rows in
          rw e (map-append (shown k (item_columns s.items)) whole [] ∙ ap (λ l. l ++ []) (made_shown columns s rows) ∙ sym (map-append (shown k (item_columns (fewer s.items))) cut_rows []))

      selects_shown : (ctes : List Input) (ss : List Select)
          → map (shown k (select_columns ss)) (union_rows inputs u ctes ss) ≡ map (shown k (select_columns (pruned_selects wanted time ss))) (union_rows inputs u ctes (pruned_selects wanted time ss))
      selects_shown ctes [] = refl
      selects_shown ctes (s ∷ []) = one_shown ctes s s.distinct refl
      selects_shown ctes (s ∷ t ∷ more) = refl

      defn_shown : (d : Defn) → map (shown k (defn_columns d)) (defn_rows d inputs u) ≡ map (shown k (defn_columns (pruned_defn wanted time d))) (defn_rows (pruned_defn wanted time d) inputs u)
      defn_shown (Seed columns rows) = refl
      defn_shown (Sql q) = selects_shown (cte_inputs inputs u q.ctes) q.selects

time_kept : (wanted : List Str) (time : Str) → is_kept wanted (Some time) time ≡ true
time_kept wanted time = later (among wanted time) (same_text time time) (text_self time)

-- whether a row lies in a unit, by what it shows
abbrev lies : Option Str → Bounds → (Str → Cell) → Bool
lies None u f = false
lies (Some time) u f = is_within u (time_of (f time))

lies_shown : (wanted : List Str) (time : Option Str) (u : Bounds) (columns : List Column) (row : Row) → lies_by time columns u row ≡ lies time u (shown (is_kept wanted time) columns row)
lies_shown wanted None u columns row = refl
lies_shown wanted (Some time) u columns row = ap (λ b. is_within u (time_of (cond b (cell_of columns row time) Null))) (sym (time_kept wanted time))

module _ (wanted : List Str) (own : Own) (inputs : List Input) where
  abbrev kept : Str → Bool
  kept = is_kept wanted (time_column own.kind)

  abbrev less : Own
  less = pruned_own wanted own

  piece_shown : (u : Bounds) → map (shown kept (columns_of own)) (piece_over own inputs u) ≡ map (shown kept (columns_of less)) (piece_over less inputs u)
  piece_shown u =
      filter_map (shown kept (columns_of own)) (is_of_unit own u) (lies (time_column own.kind) u) (lies_shown wanted (time_column own.kind) u (columns_of own)) (defn_rows own.defn inputs u)
      ∙ ap (filter (lies (time_column own.kind) u)) (defn_shown wanted (time_column own.kind) u inputs own.defn)
      ∙ sym (filter_map (shown kept (columns_of less)) (is_of_unit less u) (lies (time_column own.kind) u) (lies_shown wanted (time_column own.kind) u (columns_of less)) (defn_rows less.defn inputs u))

  over_shown : (units : List Bounds) → map (shown kept (columns_of own)) (rows_over own inputs units) ≡ map (shown kept (columns_of less)) (rows_over less inputs units)
  over_shown units = go (is_incremental own.kind)
    where
      go : (b : Bool) → map (shown kept (columns_of own)) (cond b (flat_map (piece_over own inputs) units) (defn_rows own.defn inputs no_bounds))
          ≡ map (shown kept (columns_of less)) (cond b (flat_map (piece_over less inputs) units) (defn_rows less.defn inputs no_bounds))
      go true = flat_same _ _ (piece_over own inputs) (piece_over less inputs) piece_shown units
      go false = defn_shown wanted (time_column own.kind) no_bounds inputs own.defn

-- what is shown of rows decides what is left of them when they are cut
picked_shown : (k : Str → Bool) (columns : List Column) (row : Row) (all : List Str) → Each (λ c. k c ≡ true) all → picked_row all columns row ≡ map (shown k columns row) all
picked_shown k columns row [] h = refl
picked_shown k columns row (n ∷ all) h = λ i. sym (ap (λ b. cond b (cell_of columns row n) Null) h.0) i ∷ picked_shown k columns row all h.1 i

cut_shown : (wanted : List Str) (k : Str → Bool) → Each (λ c. k c ≡ true) wanted → (columns columns' : List Column) (rows rows' : List Row)
    → map (shown k columns) rows ≡ map (shown k columns') rows' → map (picked_row wanted columns) rows ≡ map (picked_row wanted columns') rows'
cut_shown wanted k h columns columns' rows rows' e = each columns rows ∙ ap (map (λ (f : Str → Cell). map f wanted)) e ∙ sym (each columns' rows')
  where
    each : (cs : List Column) (rs : List Row) → map (picked_row wanted cs) rs ≡ map (λ (f : Str → Cell). map f wanted) (map (shown k cs) rs)
    each cs [] = refl
    each cs (r ∷ rs) = λ i. picked_shown k cs r wanted h i ∷ each cs rs i

wanted_kept : (wanted : List Str) (time : Option Str) → Each (λ c. is_kept wanted time c ≡ true) wanted
wanted_kept wanted time = go wanted (λ c h. h)
  where
    first : (a b : Bool) → a ≡ true → (a || b) ≡ true
    first true b e = refl
    first false b e = absurd (cc)

    go : (all : List Str) → ((c : Str) → among all c ≡ true → among wanted c ≡ true) → Each (λ c. is_kept wanted time c ≡ true) all
    go [] h = tt
    go (c ∷ all) h =
        (first (among wanted c) (is_time time c) (h c (first (same_text c c) (among all c) (text_self c))), go all (λ d e. h d (later (same_text c d) (among all d) e)))

-- the rows of a definition with fewer items are those of the whole one, as far as what is wanted goes
pub own_cut : (wanted : List Str) (own : Own) (inputs : List Input) (units : List Bounds)
    → cut wanted (Some (table_of own (rows_over own inputs units))) ≡ cut wanted (Some (table_of (pruned_own wanted own) (rows_over (pruned_own wanted own) inputs units)))
own_cut wanted own inputs units =
    cut_shown wanted (is_kept wanted (time_column own.kind)) (wanted_kept wanted (time_column own.kind)) (columns_of own) (columns_of (pruned_own wanted own))
    (rows_over own inputs units) (rows_over (pruned_own wanted own) inputs units) (over_shown wanted own inputs units)
