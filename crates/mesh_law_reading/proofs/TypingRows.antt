-- The rows of a SELECT over tables whose rows fit their columns.
use Rattle.std.proofs.Common.{◌≡◌, ℕ, zero, suc, ◌+◌, Bool, true, false, cond, Option, Some, None, List, [], ◌∷◌, ◌++◌, map, length, slice_index_or, refl, ap, sym, subst, ◌∙◌, arith, ◌&&◌}
use Rattle.std.specs.List.{All, AllByRecursion as Each, Contains, filter, fold, list_all}
use Rattle.std.proofs.lemmas.Bool.{and_parts, and_from}
use Rattle.std.proofs.lemmas.List.{length_push}
use Rattle.std.proofs.lemmas.List.Elements.{All-from_recursion}
use Rattle.mesh_base_values.specs.declared.times.Bounds.{Bounds}
use Rattle.mesh_base_values.specs.declared.values.Cell.{Cell}
use Rattle.mesh_base_values.specs.declared.values.Cell.TheVariants.{Null}
use Rattle.mesh_base_values.specs.declared.values.Column.{Column}
use Rattle.mesh_base_values.specs.Picked.{kind_of, cell_of, same_text}
use Rattle.mesh_base.specs.declared.expressions.Expr.{Expr}
use Rattle.mesh_base.specs.declared.jobs.Input.{Input}
use Rattle.mesh_base.specs.declared.queries.FromItem.{FromItem}
use Rattle.mesh_base.specs.declared.queries.Item.{Item}
use Rattle.mesh_base.specs.declared.queries.Join.{Join}
use Rattle.mesh_base.specs.declared.queries.Join.TheVariants.{Left}
use Rattle.mesh_base.specs.declared.queries.Select.{Select}
use Rattle.mesh_base.specs.Outputs.{item_columns}
use Rattle.mesh_model_csv.specs.seeds.Fits.{is_of, fits}
use Rattle.mesh_spec_query.specs.Aggregates.{distinct}
use Rattle.mesh_spec_query.specs.Ev.{Ev, Scope, seen}
use Rattle.mesh_spec_query.specs.Tables.{relation, columns_in, rows_in}
use Rattle.mesh_spec_query.specs.Sel.{Group, Joined, from_columns, from_rows, group_of, group_row, group_scope, grouped_rows, groups, holds, item_row, join_item, kept, key_list, made_rows, partners, plain_rows, row_holds, row_scope, same_row, select_rows}
use Rattle.mesh_spec_query.proofs.Nodes.{of_key}
use Rattle.mesh_law_reading.specs.Typed.{RowFits, ScopeFits, HasTypeOver}
use Rattle.std.specs.Option.{ForSome}
use Rattle.mesh_law_reading.specs.Operands.{operands_fit}
use Rattle.mesh_law_reading.specs.Evaluated.{group_fits, items_fit, join_fits, joins_fit, made_fits, select_operands_fit, some_fits}
use Rattle.mesh_law_reading.proofs.TypingMeets.{Meets}
use Rattle.mesh_law_reading.proofs.TypingLists.{all_true, each_map, each_weaker, each_filter, each_flat_map, each_distinct, at_push}
use Rattle.mesh_law_reading.proofs.TypingForms.{none_within}

-- a row without cells is NULL everywhere
no_cell : (columns : List Column) (name : List ℕ) → cell_of columns [] name ≡ Null
no_cell [] name = refl
no_cell (c ∷ cs) name = refl

-- the cells of a row that fits are of the columns' types
cell_fits : (columns : List Column) (row : List Cell) (name : List ℕ) → fits columns row ≡ true → is_of (kind_of columns name) (cell_of columns row name) ≡ true
cell_fits [] row name h = refl
cell_fits (c ∷ cs) [] name h = refl
cell_fits (c ∷ cs) (x ∷ xs) name h = go (same_text c.name name) (and_parts (is_of c.kind x) (fits cs xs) h) (λ h. cell_fits cs xs name h)
  where
    go : (b : Bool) → (is_of c.kind x ≡ true) × (fits cs xs ≡ true) → (fits cs xs ≡ true → is_of (kind_of cs name) (cell_of cs xs name) ≡ true)
        → is_of (cond b c.kind (kind_of cs name)) (cond b x (cell_of cs xs name)) ≡ true
    go true h more = h.0
    go false h more = more h.1

-- the row of items that have their types fits their columns
pub item_row_fits : (columns : List (List Column)) (items : List Item) → Each (λ (item : Item). HasTypeOver columns (Some item.kind) item.expr) items → (s : Scope)
    → ScopeFits columns s
    → fits (item_columns items) (item_row items s) ≡ true
item_row_fits columns [] h s f = refl
item_row_fits columns (item ∷ items) h s f = and_from (is_of item.kind (Ev item.expr s)) (fits (item_columns items) (item_row items s)) (h.0 s f)
    (item_row_fits columns items h.1 s f)

-- These are the columns that the FROM items have, and those that were found for them.
module _ (u : Bounds) (inputs ctes : List Input) (columns known : List (List Column)) where
  abbrev CellsFit : ℕ → List Cell → Type 0
  CellsFit i row = (name : List ℕ) → is_of (kind_of (slice_index_or known i []) name) (cell_of (slice_index_or columns i []) row name) ≡ true

  abbrev JoinedFits : Joined → Type 0
  JoinedFits row = (i : ℕ) → CellsFit i (slice_index_or row i [])

  no_row_fits : (i : ℕ) → CellsFit i []
  no_row_fits i name = subst (λ c. is_of (kind_of (slice_index_or known i []) name) c ≡ true) (sym (no_cell (slice_index_or columns i []) name)) refl

  abbrev PartFits : ℕ → Joined → Type 0
  PartFits n row = (length row ≡ n) × JoinedFits row

  more_fits : (n : ℕ) (left : Joined) (row : List Cell) → PartFits n left → CellsFit n row → PartFits (suc n) (left ++ row ∷ [])
  more_fits n left row h r =
      let same : length left ≡ n = h.0 in
      let longer = length_push left row in
      (omega arith, at_push CellsFit [] no_row_fits left row h.1 (subst (λ m. CellsFit m row) (sym same) r))

  kept_fits : (n : ℕ) (join : Join) (left : Joined) (pairs : List Joined) → PartFits n (left ++ [] ∷ []) → Each (PartFits n) pairs → Each (PartFits n) (kept join left pairs)
  kept_fits n Left left [] h all = (h, tt)
  kept_fits n join left pairs h all = all

  -- the tables from a place on
  FromFits : ℕ → List FromItem → Type 0
  FromFits n [] = Unit {0}
  FromFits n (f ∷ fs) = Each (CellsFit n) (rows_in (relation inputs ctes f.rel)) × FromFits (suc n) fs

  join_item_fits : (f : FromItem) (n : ℕ) (lefts : List Joined) → Each (CellsFit n) (rows_in (relation inputs ctes f.rel)) → Each (PartFits n) lefts
      → Each (PartFits (suc n)) (join_item u columns inputs ctes lefts f)
  join_item_fits f n lefts h all =
      each_flat_map (PartFits n) (PartFits (suc n)) (λ left. kept f.join left (partners u columns f.on left (rows_in (relation inputs ctes f.rel))))
      (λ left p. kept_fits (suc n) f.join left (partners u columns f.on left (rows_in (relation inputs ctes f.rel))) (more_fits n left [] p (no_row_fits n))
      (each_filter (PartFits (suc n)) (row_holds u columns f.on) (map (λ row. left ++ row ∷ []) (rows_in (relation inputs ctes f.rel)))
      (each_map (CellsFit n) (PartFits (suc n)) (λ row. left ++ row ∷ []) (λ row r. more_fits n left row p r) (rows_in (relation inputs ctes f.rel)) h)))
      lefts all

  joined_fit : (froms : List FromItem) (n : ℕ) (lefts : List Joined) → FromFits n froms → Each (PartFits n) lefts
      → Each JoinedFits (fold (join_item u columns inputs ctes) lefts froms)
  unfolding FromFits
  joined_fit [] n lefts h all = each_weaker (PartFits n) JoinedFits (λ row h. h.1) lefts all
  joined_fit (f ∷ fs) n lefts h all =
      joined_fit fs (suc n) (join_item u columns inputs ctes lefts f) h.1 (join_item_fits f n lefts h.0 all)

  -- what a row shows fits, and so does what a group shows
  row_fits : (row : Joined) → JoinedFits row → ScopeFits known (row_scope u columns row)
  row_fits row h = record { row = h; group = λ rows e. absurd (cc); keys = λ e c. absurd (none_within e c) }

  abbrev GroupFits : List Expr → Group → Type 0
  GroupFits keys g = Each JoinedFits g.rows × ((e : Expr) → Contains keys e → (row : Joined) × JoinedFits row
      × (Ev e (group_scope u columns keys g) ≡ Ev e (row_scope u columns row)))

  group_shows : (keys : List Expr) (g : Group) → GroupFits keys g → ScopeFits known (group_scope u columns keys g)
  group_shows keys g h = record {
    row = λ item name. no_row_fits item name;
    group = λ rows e. subst (All (RowFits known)) (cc) (All-from_recursion (RowFits known) (map (seen columns) g.rows)
        (each_map JoinedFits (RowFits known) (seen columns) (λ row f. f) g.rows h.0));
    keys = λ e c. let (row, f, is) = h.1 e c in (seen columns row, f, is);
  }

  abbrev IsKeyList : List Expr → List Cell → Type 0
  IsKeyList keys v = (row : Joined) × JoinedFits row × (v ≡ key_list u columns keys row)

  one_group_fits : (keys : List Expr) (rows : List Joined) → Each JoinedFits rows → (v : List Cell) → IsKeyList keys v → GroupFits keys (group_of u columns keys rows v)
  one_group_fits keys rows all v (row, f, is) = (
    each_filter JoinedFits (λ row. same_row v (key_list u columns keys row)) rows all,
    λ e c. (
      row,
      f,
      subst (λ values. Ev e (group_scope u columns keys (record { key_values = values; rows = filter (λ row. same_row v (key_list u columns keys row)) rows })) ≡ Ev e
          (row_scope u columns row)) (sym is)
          (of_key u columns keys row (filter (λ row. same_row v (key_list u columns keys row)) rows) e c),
    ),
  )

  groups_fit : (keys : List Expr) (rows : List Joined) → Each JoinedFits rows → Each (GroupFits keys) (groups u columns keys rows)
  groups_fit [] rows all = ((all, λ e c. absurd (none_within e c)), tt)
  groups_fit (k ∷ ks) rows all =
      each_map (IsKeyList (k ∷ ks)) (GroupFits (k ∷ ks)) (group_of u columns (k ∷ ks) rows) (λ v h. one_group_fits (k ∷ ks) rows all v h)
      (distinct same_row (map (key_list u columns (k ∷ ks)) rows))
      (each_distinct (IsKeyList (k ∷ ks)) same_row (map (key_list u columns (k ∷ ks)) rows)
      (each_map JoinedFits (IsKeyList (k ∷ ks)) (key_list u columns (k ∷ ks)) (λ row f. (row, f, refl)) rows all))

  -- the operands of all that is evaluated
  some_meets : (e : Option Expr) → ForSome e (Meets known) → (s : Scope) → ScopeFits known s → some_fits e s ≡ true
  some_meets None h s f = refl
  some_meets (Some e) h s f = h e refl s f

  items_meet : (items : List Item) → Each (λ (item : Item). Meets known item.expr) items → (s : Scope) → ScopeFits known s → items_fit items s ≡ true
  items_meet items h s f = all_true (λ (item : Item). Meets known item.expr) (λ (item : Item). operands_fit item.expr s) (λ item m. m s f) items h

  joins_meet : (froms : List FromItem) (n : ℕ) (lefts : List Joined) → FromFits n froms → Each (λ (f : FromItem). ForSome f.on (Meets known)) froms → Each (PartFits n) lefts
      → joins_fit u columns inputs ctes lefts froms ≡ true
  unfolding FromFits
  joins_meet [] n lefts h ons all = refl
  joins_meet (f ∷ fs) n lefts h ons all =
      and_from (join_fits u columns inputs ctes lefts f) (joins_fit u columns inputs ctes (join_item u columns inputs ctes lefts f) fs)
      (all_true (PartFits n) (λ left. list_all (λ row. some_fits f.on (row_scope u columns (left ++ row ∷ []))) (rows_in (relation inputs ctes f.rel)))
      (λ left p. all_true (CellsFit n) (λ row. some_fits f.on (row_scope u columns (left ++ row ∷ [])))
      (λ row r. some_meets f.on ons.0 (row_scope u columns (left ++ row ∷ [])) (row_fits (left ++ row ∷ []) (more_fits n left row p r).1))
      (rows_in (relation inputs ctes f.rel)) h.0)
      lefts all)
      (joins_meet fs (suc n) (join_item u columns inputs ctes lefts f) h.1 ons.1 (join_item_fits f n lefts h.0 all))

  made_meet : (q : Select) → Each (λ (item : Item). Meets known item.expr) q.items → Each (Meets known) q.keys → ForSome q.having (Meets known) → (rows : List Joined)
      → Each JoinedFits rows
      → made_fits u columns q rows ≡ true
  made_meet q items keys having rows all = go q.grouped
    where
      go : (b : Bool) → cond b (list_all (λ row. list_all (λ key. operands_fit key (row_scope u columns row)) q.keys) rows && list_all (group_fits u columns q) (groups u columns q.keys rows))
          (list_all (λ row. items_fit q.items (row_scope u columns row)) rows) ≡ true
      go true =
          and_from (list_all (λ row. list_all (λ key. operands_fit key (row_scope u columns row)) q.keys) rows) (list_all (group_fits u columns q) (groups u columns q.keys rows))
          (all_true JoinedFits (λ row. list_all (λ key. operands_fit key (row_scope u columns row)) q.keys)
          (λ row f. all_true (Meets known) (λ key. operands_fit key (row_scope u columns row)) (λ key m. m (row_scope u columns row) (row_fits row f)) q.keys keys) rows all)
          (all_true (GroupFits q.keys) (group_fits u columns q)
          (λ g f. and_from (some_fits q.having (group_scope u columns q.keys g)) (items_fit q.items (group_scope u columns q.keys g))
          (some_meets q.having having (group_scope u columns q.keys g) (group_shows q.keys g f))
          (items_meet q.items items (group_scope u columns q.keys g) (group_shows q.keys g f)))
          (groups u columns q.keys rows) (groups_fit q.keys rows all))
      go false = all_true JoinedFits (λ row. items_fit q.items (row_scope u columns row)) (λ row f. items_meet q.items items (row_scope u columns row) (row_fits row f)) rows all

  module _ (q : Select) (typed : Each (λ (item : Item). HasTypeOver known (Some item.kind) item.expr) q.items) where
    abbrev OutFits : List Cell → Type 0
    OutFits row = fits (item_columns q.items) row ≡ true

    group_row_fits : (g : Group) → GroupFits q.keys g → Each OutFits (group_row u columns q g)
    group_row_fits g h = go (holds q.having (group_scope u columns q.keys g))
      where
        go : (b : Bool) → Each OutFits (cond b (item_row q.items (group_scope u columns q.keys g) ∷ []) [])
        go true = (item_row_fits known q.items typed (group_scope u columns q.keys g) (group_shows q.keys g h), tt)
        go false = tt

    made_fit : (rows : List Joined) → Each JoinedFits rows → Each OutFits (made_rows u columns q rows)
    made_fit rows all = go q.grouped
      where
        go : (b : Bool) → Each OutFits (cond b (grouped_rows u columns q rows) (plain_rows u columns q rows))
        go true = each_flat_map (GroupFits q.keys) OutFits (group_row u columns q) group_row_fits (groups u columns q.keys rows) (groups_fit q.keys rows all)
        go false = each_map JoinedFits OutFits (λ row. item_row q.items (row_scope u columns row))
            (λ row f. item_row_fits known q.items typed (row_scope u columns row) (row_fits row f)) rows all

    distinct_fit : (rows : List (List Cell)) → Each OutFits rows → Each OutFits (cond q.distinct (distinct same_row rows) rows)
    distinct_fit rows all = go q.distinct
      where
        go : (b : Bool) → Each OutFits (cond b (distinct same_row rows) rows)
        go true = each_distinct OutFits same_row rows all
        go false = all

-- a table has these columns, and its rows fit them; there may be none
abbrev pub TableFits : List Column → Option Input → Type 0
TableFits columns None = Unit {0}
TableFits columns (Some input) = (input.columns ≡ columns) × Each (λ row. fits columns row ≡ true) input.rows

-- the tables that FROM draws
abbrev pub table_of : List Input → List Input → FromItem → Option Input
table_of inputs ctes f = relation inputs ctes f.rel

columns_of_tables : (inputs ctes : List Input) (froms : List FromItem) (i : ℕ)
    → slice_index_or (from_columns inputs ctes froms) i [] ≡ columns_in (slice_index_or (map (table_of inputs ctes) froms) i None)
columns_of_tables inputs ctes [] i = refl
columns_of_tables inputs ctes (f ∷ fs) zero = refl
columns_of_tables inputs ctes (f ∷ fs) (suc i) = columns_of_tables inputs ctes fs i

module _ (u : Bounds) (inputs ctes : List Input) (q : Select) (known : List (List Column)) where
  abbrev FitsAt : ℕ → List Cell → Type 0
  FitsAt = CellsFit u inputs ctes (from_columns inputs ctes q.from) known

  table_fits : (i : ℕ) (table : Option Input) → slice_index_or (from_columns inputs ctes q.from) i [] ≡ columns_in table → TableFits (slice_index_or known i []) table
      → Each (FitsAt i) (rows_in table)
  table_fits i None is h = tt
  table_fits i (Some input) is h =
      each_weaker (λ row. fits (slice_index_or known i []) row ≡ true) (FitsAt i)
      (λ row f name. subst (λ cs. is_of (kind_of (slice_index_or known i []) name) (cell_of cs row name) ≡ true) (sym (is ∙ h.0))
      (cell_fits (slice_index_or known i []) row name f)) input.rows h.1

  from_place : (n : ℕ) (fs : List FromItem) → ((i : ℕ) → Each (FitsAt (n + i)) (rows_in (slice_index_or (map (table_of inputs ctes) fs) i None)))
      → FromFits u inputs ctes (from_columns inputs ctes q.from) known n fs
  unfolding FromFits
  from_place n [] h = tt
  from_place n (f ∷ fs) h = (
    subst (λ m. Each (FitsAt m) (rows_in (table_of inputs ctes f))) (omega arith) (h 0),
    from_place (suc n) fs (λ i. subst (λ m. Each (FitsAt m) (rows_in (slice_index_or (map (table_of inputs ctes) fs) i None))) (omega arith) (h (suc i))),
  )

  all_from : (froms : List FromItem) → froms ≡ q.from → ((i : ℕ) → TableFits (slice_index_or known i []) (slice_index_or (map (table_of inputs ctes) froms) i None))
      → FromFits u inputs ctes (from_columns inputs ctes q.from) known 0 froms
  all_from froms same h =
      from_place 0 froms (λ i. subst (λ m. Each (FitsAt m) (rows_in (slice_index_or (map (table_of inputs ctes) froms) i None))) (omega arith)
      (table_fits i (slice_index_or (map (table_of inputs ctes) froms) i None)
      (ap (λ fs. slice_index_or (from_columns inputs ctes fs) i []) (sym same) ∙ columns_of_tables inputs ctes froms i) (h i)))

  -- the rows of a SELECT whose items have their types over tables that fit
  pub select_fits : Each (λ (item : Item). HasTypeOver known (Some item.kind) item.expr) q.items
      → ((i : ℕ) → TableFits (slice_index_or known i []) (slice_index_or (map (table_of inputs ctes) q.from) i None))
      → Each (λ row. fits (item_columns q.items) row ≡ true) (select_rows inputs u ctes q)
  select_fits typed h =
      let columns : List (List Column) = from_columns inputs ctes q.from in
      let from : List Joined = from_rows u columns inputs ctes q.from in
      distinct_fit u inputs ctes columns known q typed (made_rows u columns q (filter (row_holds u columns q.filter) from))
      (made_fit u inputs ctes columns known q typed (filter (row_holds u columns q.filter) from)
      (each_filter (JoinedFits u inputs ctes columns known) (row_holds u columns q.filter) from
      (joined_fit u inputs ctes columns known q.from 0 ([] ∷ []) (all_from q.from refl h) ((refl, λ i. no_row_fits u inputs ctes columns known i), tt))))

  -- and their operands
  pub select_meets : Each (λ (item : Item). Meets known item.expr) q.items → Each (Meets known) q.keys → ForSome q.filter (Meets known) → ForSome q.having (Meets known)
      → Each (λ (f : FromItem). ForSome f.on (Meets known)) q.from → ((i : ℕ) → TableFits (slice_index_or known i []) (slice_index_or (map (table_of inputs ctes) q.from) i None))
      → select_operands_fit inputs u ctes q ≡ true
  select_meets items keys where_ having ons h =
      let columns : List (List Column) = from_columns inputs ctes q.from in
      let from : List Joined = from_rows u columns inputs ctes q.from in
      let part : Each (PartFits u inputs ctes columns known 0) ([] ∷ []) = ((refl, λ i. no_row_fits u inputs ctes columns known i), tt) in
      let tables = all_from q.from refl h in
      let all = joined_fit u inputs ctes columns known q.from 0 ([] ∷ []) tables part in
      and_from (joins_fit u columns inputs ctes ([] ∷ []) q.from)
      (list_all (λ row. some_fits q.filter (row_scope u columns row)) from && made_fits u columns q (filter (row_holds u columns q.filter) from))
      (joins_meet u inputs ctes columns known q.from 0 ([] ∷ []) tables ons part)
      (and_from (list_all (λ row. some_fits q.filter (row_scope u columns row)) from) (made_fits u columns q (filter (row_holds u columns q.filter) from))
      (all_true (JoinedFits u inputs ctes columns known) (λ row. some_fits q.filter (row_scope u columns row))
      (λ row f. some_meets u inputs ctes columns known q.filter where_ (row_scope u columns row) (row_fits u inputs ctes columns known row f)) from all)
      (made_meet u inputs ctes columns known q items keys having (filter (row_holds u columns q.filter) from)
      (each_filter (JoinedFits u inputs ctes columns known) (row_holds u columns q.filter) from all)))
