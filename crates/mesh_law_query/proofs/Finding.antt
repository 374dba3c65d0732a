-- A well-formed definition finds all that it names among the tables that it reads.
use Rattle.std.proofs.Common.{◌≡◌, ℕ, zero, suc, Bool, true, false, cond, ◌&&◌, ◌||◌, inl, inr, List, [], ◌∷◌, ◌++◌, map, refl, ap, sym, ◌∙◌, subst, append_assoc}
use Rattle.std.specs.List.{All, find, flat_map, fold, list_all, slice_get}
use Rattle.std.specs.Option.{is_some, option_map}
use Rattle.std.specs.Ordering.{is_eq}
use Rattle.std.specs.declared.option.Option.{Option}
use Rattle.std.specs.declared.option.Option.TheVariants.{None, Some}
use Rattle.std.proofs.lemmas.Bool.{and_parts}
use Rattle.std.proofs.lemmas.List.{append-nil, map-append}
use Rattle.std.proofs.lemmas.List.Elements.{All-nil, All-cons}
use Rattle.std.proofs.lemmas.List.Folds.{list_all-append}
use Rattle.mesh_base_values.specs.Names.{name_cmp}
use Rattle.mesh_base_values.specs.Picked.{same_text}
use Rattle.mesh_base_values.specs.declared.times.Bounds.{Bounds}
use Rattle.mesh_base_values.specs.declared.values.Column.{Column}
use Rattle.mesh_base_values.specs.declared.values.Name.{Name}
use Rattle.mesh_base.specs.Outputs.{columns_of, select_columns}
use Rattle.mesh_base.specs.declared.definitions.Decl.{Decl}
use Rattle.mesh_base.specs.declared.definitions.Defn.{Defn}
use Rattle.mesh_base.specs.declared.definitions.Defn.TheVariants.{Seed, Sql}
use Rattle.mesh_base.specs.declared.definitions.Own.{Own}
use Rattle.mesh_base.specs.declared.expressions.Expr.{Expr, roll-Expr, map-Expr, fold-roll-Expr, ind-Expr}
use Rattle.mesh_base.specs.declared.expressions.Expr.TheOpen.{Expr-F, When-F, Literal, Col, Macro, Binary, Neg, Not, IsNull, Between, OneOf, Cast, Call, Case, CountAll, Agg}
use Rattle.mesh_base.specs.declared.expressions.When.{When, roll-When, map-When, fold-roll-When}
use Rattle.mesh_base.specs.declared.jobs.Input.{Input}
use Rattle.mesh_base.specs.declared.queries.FromItem.{FromItem}
use Rattle.mesh_base.specs.declared.queries.Item.{Item}
use Rattle.mesh_base.specs.declared.queries.Query.{Query}
use Rattle.mesh_base.specs.declared.queries.Rel.{Rel}
use Rattle.mesh_base.specs.declared.queries.Rel.TheVariants.{Named, Cte}
use Rattle.mesh_base.specs.declared.queries.Select.{Select}
use Rattle.mesh_base.specs.declared.rules.relations.Parent.{Parent}
use Rattle.mesh_base.specs.declared.rules.relations.Relation.{Relation}
use Rattle.mesh_base.specs.rules.Relations.{parent_relation, read_relations, relation_columns, source_relation}
use Rattle.mesh_base.specs.rules.Seen.{are_ctes_seen, are_distinct, are_selects_seen, are_there, column_at, conditions_see, has_column, has_in, is_query_seen, is_select_seen, items_see, keys_see, or_no_columns, rel_columns, sees, sees_here, sees_some, sees_when, select_sees, tables_of, when_sees}
use Rattle.mesh_base.specs.rules.Proper.{has_its_time, is_body_of, is_body_seen, is_plain_schema, is_well_formed}
use Rattle.mesh_base_values.specs.Crons.{is_cron}
use Rattle.mesh_spec_query.specs.Named.{Place, columns, columns_here, columns_when, when_columns}
use Rattle.mesh_spec_query.specs.Sel.{cte_input, cte_inputs}
use Rattle.mesh_spec_query.specs.Tables.{relation}
use Rattle.mesh_spec_model.specs.Closures.{Closures, Model, Alone, With, each_of}
use Rattle.mesh_spec_model.specs.Horizons.{Clock}
use Rattle.mesh_spec_model.specs.Scratch.{inputs_of, tables}
use Rattle.mesh_spec_model.specs.Sources.{declared, inputs}
use Rattle.mesh_law_query.specs.Reads.{StandsIn}
use Rattle.mesh_law_query.specs.Found.{input_relation, model_relation, IsFound, HasColumn, FindsAll, QueryFindsAll, DefnFindsAll}
use Rattle.mesh_law_query.proofs.Has.{Has, Has_from, Has_to}
use Rattle.mesh_law_query.proofs.ReadColumns.{Str, text_is}

-- what a test of all says of one
pub one_passes : {X : Type 0} (p : X → Bool) (xs : List X) (x : X) → list_all p xs ≡ true → Has x xs → p x ≡ true
one_passes p [] x h k = absurd k
one_passes p (y ∷ ys) x h (inl e) = subst (λ t. p t ≡ true) e (and_parts (p y) (list_all p ys) h).0
one_passes p (y ∷ ys) x h (inr k) = one_passes p ys x (and_parts (p y) (list_all p ys) h).1 k

all_pass : {X : Type 0} (P : X → Type 0) (p : X → Bool) → ((x : X) → p x ≡ true → P x) → (xs : List X) → list_all p xs ≡ true → All P xs
all_pass P p f [] h = All-nil P
all_pass P p f (x ∷ xs) h = let b = and_parts (p x) (list_all p xs) h in All-cons P x xs (f x b.0) (all_pass P p f xs b.1)

pub get_map : {X Y : Type 0} (f : X → Y) (xs : List X) (k : ℕ) → slice_get (map f xs) k ≡ option_map f (slice_get xs k)
get_map f [] k = refl
get_map f (x ∷ xs) zero = refl
get_map f (x ∷ xs) (suc k) = get_map f xs k

-- an expression sees what it names: each of its columns is there
module _ (all : List (List Column)) where
  abbrev there : Place → Bool
  there p = column_at all p.0 p.1

  abbrev P : Expr → Type 0
  P e = sees all e ≡ list_all there (columns e)

  abbrev P' : When → Type 0
  P' w = sees_when all w ≡ list_all there (when_columns w)

  abbrev Known : Type 0
  Known = (e : Expr) × P e

  abbrev Known' : Type 0
  Known' = (w : When) × P' w

  joined : {a b : Bool} (xs ys : List Place) → a ≡ list_all there xs → b ≡ list_all there ys → (a && b) ≡ list_all there (xs ++ ys)
  joined xs ys e f = (λ i. e i && f i) ∙ sym (list_all-append there xs ys)

  exprs : (es : List Known) → list_all (λ b. b) (map (sees all) (map (λ e. e.0) es)) ≡ list_all there (flat_map (λ x. x) (map columns (map (λ e. e.0) es)))
  exprs [] = refl
  exprs (e ∷ es) = joined (columns e.0) (flat_map (λ x. x) (map columns (map (λ e. e.0) es))) e.1 (exprs es)

  whens : (ws : List Known') → list_all (λ b. b) (map (sees_when all) (map (λ w. w.0) ws)) ≡ list_all there (flat_map (λ x. x) (map when_columns (map (λ w. w.0) ws)))
  whens [] = refl
  whens (w ∷ ws) = joined (when_columns w.0) (flat_map (λ x. x) (map when_columns (map (λ w. w.0) ws))) w.1 (whens ws)

  alone : (b : Bool) → b ≡ (b && true)
  alone true = refl
  alone false = refl

  three : (a b c : Bool) → ((a && b) && c) ≡ (a && (b && c))
  three true b c = refl
  three false b c = refl

  abbrev under : Expr-F Known Known' → Expr-F Expr When
  under y = map-Expr Known Known' Expr When (λ e. e.0) (λ w. w.0) y

  layer : (y : Expr-F Known Known')
      → sees_here all (map-Expr Expr When Bool Bool (sees all) (sees_when all) (under y)) ≡ list_all there (columns_here (map-Expr Expr When (List Place) (List Place) columns when_columns (under y)))
  layer (Literal c) = refl
  layer (Col item name) = alone (column_at all item name)
  layer (Macro var) = refl
  layer (Binary op a b) = joined (columns a.0) (columns b.0) a.1 b.1
  layer (Neg a) = a.1
  layer (Not a) = a.1
  layer (IsNull a) = a.1
  layer (Between a b c) = three (sees all a.0) (sees all b.0) (sees all c.0) ∙ joined (columns a.0) (columns b.0 ++ columns c.0) a.1 (joined (columns b.0) (columns c.0) b.1 c.1)
  layer (OneOf a es) = joined (columns a.0) (flat_map (λ x. x) (map columns (map (λ e. e.0) es))) a.1 (exprs es)
  layer (Cast to a) = a.1
  layer (Call func es) = exprs es
  layer (Case ws a) = joined (flat_map (λ x. x) (map when_columns (map (λ w. w.0) ws))) (columns a.0) (whens ws) a.1
  layer CountAll = refl
  layer (Agg kind a) = a.1

  rolled : (y : Expr-F Known Known') → P (roll-Expr (under y))
  rolled y =
      fold-roll-Expr Bool Bool (sees_here all) when_sees (under y) ∙ layer y
      ∙ ap (λ (c : List Place). list_all there c) (sym (fold-roll-Expr (List Place) (List Place) columns_here columns_when (under y)))

  abbrev under_when : When-F Known Known' → When-F Expr When
  under_when y = map-When Known Known' Expr When (λ e. e.0) (λ w. w.0) y

  rolled_when : (y : When-F Known Known') → P' (roll-When (under_when y))
  rolled_when y =
      fold-roll-When Bool Bool (sees_here all) when_sees (under_when y)
      ∙ joined (columns y.test.0) (columns y.value.0) y.test.1 y.value.1
      ∙ ap (λ (c : List Place). list_all there c) (sym (fold-roll-When (List Place) (List Place) columns_here columns_when (under_when y)))

  sees_its_columns : (e : Expr) → sees all e ≡ list_all there (columns e)
  sees_its_columns = ind-Expr P P' (λ x y e. subst (λ z. P (roll-Expr z)) e (rolled y)) (λ x y e. subst (λ z. P' (roll-When z)) e (rolled_when y))

  -- each expression of a SELECT sees what it names
  some_sees : (o : Option Expr) (e : Expr) → sees_some all o ≡ true → o ≡ Some e → sees all e ≡ true
  some_sees o e h i = ap (sees_some all) (sym i) ∙ h

  each_sees : (s : Select) (e : Expr) → select_sees all s ≡ true → StandsIn s e → sees all e ≡ true
  unfolding select_sees
  each_sees s e h st = go st
    where
      rest : (conditions_see all s.from && (sees_some all s.filter && (keys_see all s.keys && sees_some all s.having))) ≡ true
      rest = (and_parts (items_see all s.items) (conditions_see all s.from && (sees_some all s.filter && (keys_see all s.keys && sees_some all s.having))) h).1

      more : (sees_some all s.filter && (keys_see all s.keys && sees_some all s.having)) ≡ true
      more = (and_parts (conditions_see all s.from) (sees_some all s.filter && (keys_see all s.keys && sees_some all s.having)) rest).1

      last : (keys_see all s.keys && sees_some all s.having) ≡ true
      last = (and_parts (sees_some all s.filter) (keys_see all s.keys && sees_some all s.having) more).1

      go : StandsIn s e → sees all e ≡ true
      go (inl (i, k, x)) =
          let items = (and_parts (items_see all s.items) (conditions_see all s.from && (sees_some all s.filter && (keys_see all s.keys && sees_some all s.having))) h).0 in
          subst (λ t. sees all t ≡ true) x (one_passes (λ (i : Item). sees all i.expr) s.items i items (Has_from s.items i k))
      go (inr (inl (f, k, x))) =
          let conditions = (and_parts (conditions_see all s.from) (sees_some all s.filter && (keys_see all s.keys && sees_some all s.having)) rest).0 in
          some_sees f.on e (one_passes (λ (f : FromItem). sees_some all f.on) s.from f conditions (Has_from s.from f k)) x
      go (inr (inr (inl x))) = some_sees s.filter e (and_parts (sees_some all s.filter) (keys_see all s.keys && sees_some all s.having) more).0 x
      go (inr (inr (inr (inl k)))) = one_passes (sees all) s.keys e (and_parts (keys_see all s.keys) (sees_some all s.having) last).0 (Has_from s.keys e k)
      go (inr (inr (inr (inr x)))) = some_sees s.having e (and_parts (keys_see all s.keys) (sees_some all s.having) last).1 x

-- a column of that name
column_there : (cs : List Column) (name : Str) → has_column cs name ≡ true → (c : Column) × Has c cs × (c.name ≡ name)
column_there [] name h = absurd (cc)
column_there (c ∷ cs) name h = go (same_text c.name name) refl h (column_there cs name)
  where
    go : (b : Bool) → same_text c.name name ≡ b → (b || has_column cs name) ≡ true → (has_column cs name ≡ true → (d : Column) × Has d cs × (d.name ≡ name)) → (d : Column) × Has d (c ∷ cs) × (d.name ≡ name)
    go true e k rest = (c, inl refl, text_is c.name name e)
    go false e k rest = let (d, i, n) = rest k in (d, inr i, n)

-- tables of these names and columns, and CTEs of these columns
abbrev columns_of_input : Input → List Column
columns_of_input t = t.columns

named_columns : (tables : List Input) (name : Name) → relation_columns (map input_relation tables) name ≡ option_map columns_of_input (find (λ input. is_eq (name_cmp input.name name)) tables)
named_columns [] name = refl
named_columns (t ∷ ts) name = go (is_eq (name_cmp t.name name)) (named_columns ts name)
  where
    go : (b : Bool) → relation_columns (map input_relation ts) name ≡ option_map columns_of_input (find (λ input. is_eq (name_cmp input.name name)) ts)
        → cond b (Some t.columns) (relation_columns (map input_relation ts) name) ≡ option_map columns_of_input (cond b (Some t) (find (λ input. is_eq (name_cmp input.name name)) ts))
    go true e = refl
    go false e = e

module _ (tables : List Input) (u : Bounds) where
  ctes_after : (so_far : List Input) (ctes : List (List Select))
      → map columns_of_input (fold (λ so_far selects. so_far ++ cte_input tables u so_far selects ∷ []) so_far ctes) ≡ map columns_of_input so_far ++ map select_columns ctes
  ctes_after so_far [] = sym (append-nil (map columns_of_input so_far))
  ctes_after so_far (c ∷ cs) =
      ctes_after (so_far ++ cte_input tables u so_far c ∷ []) cs
      ∙ ap (λ l. l ++ map select_columns cs) (map-append columns_of_input so_far (cte_input tables u so_far c ∷ []))
      ∙ append_assoc (map columns_of_input so_far) (select_columns c ∷ []) (map select_columns cs)

  module _ (ctes : List (List Select)) where
    abbrev earlier : List Input
    earlier = cte_inputs tables u ctes

    rel_is : (r : Rel) → rel_columns (map input_relation tables) ctes r ≡ option_map columns_of_input (relation tables earlier r)
    rel_is (Named name) = named_columns tables name
    rel_is (Cte k) = sym (get_map select_columns ctes k) ∙ ap (λ l. slice_get l k) (sym (ctes_after [] ctes)) ∙ get_map columns_of_input earlier k

    found : (f : FromItem) → is_some (rel_columns (map input_relation tables) ctes f.rel) ≡ true → IsFound tables earlier f
    found f h = go (relation tables earlier f.rel) refl (ap is_some (sym (rel_is f.rel)) ∙ h)
      where
        go : (o : Option Input) → relation tables earlier f.rel ≡ o → is_some (option_map columns_of_input o) ≡ true → IsFound tables earlier f
        go None e k = absurd (cc)
        go (Some t) e k = (t, e)

    column_found : (from : List FromItem) (item : ℕ) (name : Str) → column_at (tables_of (map input_relation tables) ctes from) item name ≡ true
        → (f : FromItem) × (slice_get from item ≡ Some f) × HasColumn tables earlier f name
    column_found from item name h = by_item (slice_get from item) refl (ap (λ o. has_in o name) (sym (get_map (λ (f : FromItem). or_no_columns (rel_columns (map input_relation tables) ctes f.rel)) from item)) ∙ h)
      where
        by_table : (f : FromItem) (o : Option Input) → relation tables earlier f.rel ≡ o → has_column (or_no_columns (option_map columns_of_input o)) name ≡ true → HasColumn tables earlier f name
        by_table f None e k = absurd (cc)
        by_table f (Some t) e k = let (c, i, n) = column_there t.columns name k in (t, e, (c, Has_to t.columns c i, n))

        by_item : (o : Option FromItem) → slice_get from item ≡ o → has_in (option_map (λ (f : FromItem). or_no_columns (rel_columns (map input_relation tables) ctes f.rel)) o) name ≡ true
            → (f : FromItem) × (slice_get from item ≡ Some f) × HasColumn tables earlier f name
        by_item None e k = absurd (cc)
        by_item (Some f) e k = (f, e, by_table f (relation tables earlier f.rel) refl (ap (λ o. has_column (or_no_columns o) name) (sym (rel_is f.rel)) ∙ k))

    select_finds : (s : Select) → is_select_seen (map input_relation tables) ctes s ≡ true → FindsAll tables earlier s
    unfolding is_select_seen
    select_finds s h =
        let all : List (List Column) = tables_of (map input_relation tables) ctes s.from in
        let b = and_parts (are_there (map input_relation tables) ctes s.from) (select_sees all s) h in (
          all_pass (IsFound tables earlier) (λ (f : FromItem). is_some (rel_columns (map input_relation tables) ctes f.rel)) found s.from b.0,
          λ e item name st k.
              column_found s.from item name (one_passes (there all) (columns e) (item, name) (sym (sees_its_columns all e) ∙ each_sees all s e b.1 st) (Has_from (columns e) (item, name) k)),
        )

    selects_find : (selects : List Select) → are_selects_seen (map input_relation tables) ctes selects ≡ true → All (FindsAll tables earlier) selects
    selects_find selects h = all_pass (FindsAll tables earlier) (is_select_seen (map input_relation tables) ctes) select_finds selects h

cte_seen : (relations : List Relation) (so_far before after : List (List Select)) (c : List Select) → are_ctes_seen relations so_far (before ++ c ∷ after) ≡ true → are_selects_seen relations (so_far ++ before) c ≡ true
cte_seen relations so_far [] after c h =
    ap (λ l. are_selects_seen relations l c) (append-nil so_far) ∙ (and_parts (are_selects_seen relations so_far c) (are_ctes_seen relations (so_far ++ c ∷ []) after) h).0
cte_seen relations so_far (b ∷ before) after c h =
    ap (λ l. are_selects_seen relations l c) (sym (append_assoc so_far (b ∷ []) before))
    ∙ cte_seen relations (so_far ++ b ∷ []) before after c (and_parts (are_selects_seen relations so_far b) (are_ctes_seen relations (so_far ++ b ∷ []) (before ++ c ∷ after)) h).1

query_finds : (tables : List Input) (q : Query) (u : Bounds) → is_query_seen (map input_relation tables) q ≡ true → QueryFindsAll q tables u
query_finds tables q u h =
    let b = and_parts (are_ctes_seen (map input_relation tables) [] q.ctes) (are_selects_seen (map input_relation tables) q.ctes q.selects) h in (
      λ before after c e. selects_find tables u before c (cte_seen (map input_relation tables) [] before after c (ap (are_ctes_seen (map input_relation tables) []) (sym e) ∙ b.0)),
      selects_find tables u q.ctes q.selects b.1,
    )

pub queries_find : (relations : List Relation) (q : Query) (tables : List Input) → is_query_seen relations q ≡ true → map input_relation tables ≡ relations → (u : Bounds) → QueryFindsAll q tables u
queries_find relations q tables h e u = query_finds tables q u (ap (λ r. is_query_seen r q) e ∙ h)

body_finds : (relations : List Relation) (d : Defn) (tables : List Input) → is_body_seen relations d ≡ true → map input_relation tables ≡ relations → (u : Bounds) → DefnFindsAll d tables u
body_finds relations (Seed columns rows) tables h e u = tt
body_finds relations (Sql q) tables h e u = queries_find relations q tables h e u

sources_are : (sources : List Input) (ds : List Decl) → map input_relation (map (declared sources) ds) ≡ map source_relation ds
sources_are sources [] = refl
sources_are sources (d ∷ ds) = ap (λ l. source_relation d ∷ l) (sources_are sources ds)

inputs_are : (sources : List Input) (own : Own) (parents : List Parent) (tables : List Input) → map input_relation tables ≡ map parent_relation parents → map input_relation (inputs sources own tables) ≡ read_relations own.sources parents
inputs_are sources own parents tables e = map-append input_relation (map (declared sources) own.sources) tables ∙ (λ i. sources_are sources own.sources i ++ e i)

body_of : (parents : List Parent) (own : Own) → is_well_formed parents own ≡ true → is_body_seen (read_relations own.sources parents) own.defn ≡ true
body_of parents own h =
    let a = and_parts (is_plain_schema own.name.schema) _ h in
    let b = and_parts (is_body_of own.kind own.defn) _ a.1 in
    let c = and_parts (is_cron own.cron) _ b.1 in
    let d = and_parts (has_its_time own.kind own.start (columns_of own)) _ c.1 in
    let e = and_parts (are_distinct (columns_of own)) _ d.1 in
    (and_parts (is_body_seen (read_relations own.sources parents) own.defn) _ e.1).0

pub definitions_find : (parents : List Parent) (own : Own) → is_well_formed parents own ≡ true → (tables : List Input) → map input_relation tables ≡ map parent_relation parents → (sources : List Input) (u : Bounds) → DefnFindsAll own.defn (inputs sources own tables) u
definitions_find parents own h tables e sources u = body_finds (read_relations own.sources parents) own.defn (inputs sources own tables) (body_of parents own h) (inputs_are sources own parents tables e) u

tables_are : (sources : List Input) (clock : Clock) (cs : Closures) → map input_relation (tables sources clock cs) ≡ map model_relation (each_of cs)
tables_are sources clock Alone = refl
tables_are sources clock (With c cs) = ap (λ l. model_relation c ∷ l) (tables_are sources clock cs)

pub closures_find : (parents : List Parent) (own : Own) (cs : Closures) → is_well_formed parents own ≡ true → map model_relation (each_of cs) ≡ map parent_relation parents
    → (sources : List Input) (clock : Clock) (u : Bounds) → DefnFindsAll own.defn (inputs_of sources clock (Model own cs)) u
closures_find parents own cs h e sources clock u = definitions_find parents own h (tables sources clock cs) (tables_are sources clock cs ∙ e) sources u
