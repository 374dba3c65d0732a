-- A query's rows are one bag where its inputs' are.
use Rattle.std.proofs.Common.{◌≢◌, ◌≡◌, ℕ, suc, zero, ◌+◌, Bool, true, false, cond, List, [], ◌∷◌, ◌++◌, map, refl, ap, sym, ◌∙◌, arith}
use Rattle.std.specs.List.{AllZip, filter, flat_map, fold, slice_get}
use Rattle.std.specs.Ordering.{is_eq}
use Rattle.std.specs.declared.option.Option.{Option}
use Rattle.std.specs.declared.option.Option.TheVariants.{None, Some}
use Rattle.std.proofs.lemmas.Cmp.{tied_itself}
use Rattle.std.proofs.lemmas.List.Sums.{sum_by-cons}
use Rattle.std.proofs.lemmas.List.Elements.{AllZip-push}
use Rattle.mesh_base_values.specs.Bag.{times, IsSameBag}
use Rattle.mesh_base_values.specs.Order.{row_order}
use Rattle.mesh_base_values.specs.declared.times.Bounds.{Bounds}
use Rattle.mesh_base_values.specs.declared.values.Cell.{Cell}
use Rattle.mesh_base_values.specs.declared.values.Column.{Column}
use Rattle.mesh_base_values.specs.declared.values.Name.{Name}
use Rattle.mesh_base.specs.declared.expressions.Expr.{Expr}
use Rattle.mesh_base.specs.declared.jobs.Input.{Input}
use Rattle.mesh_base.specs.declared.queries.Item.{Item}
use Rattle.mesh_base.specs.declared.queries.FromItem.{FromItem}
use Rattle.mesh_base.specs.declared.queries.Rel.{Rel}
use Rattle.mesh_base.specs.declared.queries.Rel.TheVariants.{Named, Cte}
use Rattle.mesh_base.specs.declared.queries.Select.{Select}
use Rattle.mesh_base.specs.declared.queries.Query.{Query}
use Rattle.mesh_base.specs.declared.queries.Join.{Join}
use Rattle.mesh_base.specs.declared.queries.Join.TheVariants.{First, Inner, Left, Cross}
use Rattle.mesh_base_values.proofs.Total.{row_total, row_exact}
use Rattle.mesh_base_values.proofs.Equals.{equal_of}
use Rattle.mesh_base.specs.rules.Proper.{rel_names, from_names, select_names, selects_names, names_of_all}
use Rattle.mesh_spec_query.specs.Cells.{is_true}
use Rattle.mesh_spec_query.specs.Aggregates.{distinct}
use Rattle.mesh_spec_query.specs.Ev.{seen}
use Rattle.mesh_spec_query.specs.Tables.{relation, columns_in, rows_in}
use Rattle.mesh_spec_query.specs.Sel.{Joined, same_row, holds, row_holds, partners, kept, join_item, from_columns, from_rows, key_list, group_of, groups, group_scope, item_row, plain_rows, group_row, grouped_rows, made_rows, select_rows, union_rows, cte_input, cte_inputs, Sel, row_scope}
use Rattle.mesh_law_query.specs.Alike.{names, named, IsSameTable, HaveSameBags}
use Rattle.mesh_law_query.proofs.Lists.{Each, each, Each_left, Each_right, Each_imp}
use Rattle.mesh_law_query.proofs.Perm.{Perm, nil, skip, swap, trans, same, flip, is, mapped, filtered, appended, flat, flat_each, fold_same}
use Rattle.mesh_law_query.proofs.Amounts.{rows_same}
use Rattle.mesh_law_query.proofs.Members.{Ev_same}

abbrev Row : Type 0
Row = List Cell

-- bags by counts are lists in another order
times-cons : (y z : Row) (zs : List Row) → times y (z ∷ zs) ≡ cond (is_eq (row_order y z)) 1 0 + times y zs
times-cons y z zs = sum_by-cons (λ x. cond (is_eq (row_order y x)) 1 0) z zs

pub counts_same : {xs ys : List Row} → Perm xs ys → IsSameBag xs ys
counts_same p row = fold_same (λ n x. n + cond (is_eq (row_order row x)) 1 0) (λ n x y. omega arith) p 0

itself : (y : Row) → is_eq (row_order y y) ≡ true
itself y = ap is_eq (tied_itself row_total y)

-- a row that stands in the list, brought to its front
front_cases : (row y : Row) (ys : List Row) (b : Bool) → is_eq (row_order row y) ≡ b → cond b 1 0 + times row ys ≢ 0 → (times row ys ≢ 0 → (zs : List Row) × Perm ys (row ∷ zs)) → (zs : List Row) × Perm (y ∷ ys) (row ∷ zs)
front_cases row y ys true e k ih = (ys, is (y ∷ ys) (row ∷ ys) (ap (λ r. r ∷ ys) (sym (row_exact row y (equal_of (row_order row y) e)))))
front_cases row y ys false e k ih = let (zs, p) = ih (λ z. k (omega (arith, z))) in (y ∷ zs, trans (skip p) swap)

front : (row : Row) (ys : List Row) → times row ys ≢ 0 → (zs : List Row) × Perm ys (row ∷ zs)
front row [] h = absurd (h refl)
front row (y ∷ ys) h = front_cases row y ys (is_eq (row_order row y)) refl (λ e. h (times-cons row y ys ∙ e)) (front row ys)

here : (row : Row) (rows : List Row) → times row (row ∷ rows) ≢ 0
here row rows e = let h : times row (row ∷ rows) ≡ 1 + times row rows = times-cons row row rows ∙ ap (λ b. cond b 1 0 + times row rows) (itself row) in absurd (omega (arith, h, e))

cancel : (b : Bool) (m n : ℕ) → cond b 1 0 + m ≡ cond b 1 0 + n → m ≡ n
cancel true m n e = omega (arith, e)
cancel false m n e = omega (arith, e)

pub bag_is_perm : (xs ys : List Row) → IsSameBag xs ys → Perm xs ys
bag_is_perm [] [] h = nil
bag_is_perm [] (y ∷ ys) h = absurd (here y ys (sym (h y)))
bag_is_perm (x ∷ xs) ys h =
    let found : (zs : List Row) × Perm ys (x ∷ zs) = front x ys (λ e. here x xs (h x ∙ e)) in
    let rest : IsSameBag xs found.0 = λ row. cancel (is_eq (row_order row x)) (times row xs) (times row found.0)
    (sym (times-cons row x xs) ∙ h row ∙ counts_same found.1 row ∙ times-cons row x found.0) in
    trans (skip (bag_is_perm xs found.0 rest)) (flip found.1)

-- tables of the same columns, with one bag of rows
pub record IsSame (a b : Option Input) : Type 0 where
  pub columns : columns_in a ≡ columns_in b
  pub rows : Perm (rows_in a) (rows_in b)

kept_same : (j : Join) (left : Joined) {xs ys : List Joined} → Perm xs ys → Perm (kept j left xs) (kept j left ys)
kept_same First left p = p
kept_same Inner left p = p
kept_same Cross left p = p
kept_same Left left nil = same ((left ++ [] ∷ []) ∷ [])
kept_same Left left (skip p) = skip p
kept_same Left left swap = swap
kept_same Left left (trans p q) = trans (kept_same Left left p) (kept_same Left left q)

module _ (u : Bounds) (columns : List (List Column)) where
  holds_same : (q : List Expr) (values : List Cell) {xs ys : List Joined} → Perm xs ys → (e : Option Expr)
      → holds e (group_scope u columns q (record { key_values = values; rows = xs })) ≡ holds e (group_scope u columns q (record { key_values = values; rows = ys }))
  holds_same q values p None = refl
  holds_same q values {xs} {ys} p (Some e) = ap is_true (Ev_same (map (seen columns) xs) (map (seen columns) ys) (mapped (seen columns) p) e (group_scope u columns q (record { key_values = values; rows = xs })))

  items_same : (q : List Expr) (values : List Cell) {xs ys : List Joined} → Perm xs ys → (items : List Item)
      → item_row items (group_scope u columns q (record { key_values = values; rows = xs })) ≡ item_row items (group_scope u columns q (record { key_values = values; rows = ys }))
  items_same q values p [] = refl
  items_same q values {xs} {ys} p (item ∷ items) =
      λ i. Ev_same (map (seen columns) xs) (map (seen columns) ys) (mapped (seen columns) p) item.expr (group_scope u columns q (record { key_values = values; rows = xs })) i ∷ items_same q values p items i

  group_row_same : (q : Select) (values : List Cell) {xs ys : List Joined} → Perm xs ys → group_row u columns q (record { key_values = values; rows = xs }) ≡ group_row u columns q (record { key_values = values; rows = ys })
  group_row_same q values p = λ i. cond (holds_same q.keys values p q.having i) (items_same q.keys values p q.items i ∷ []) []

  each_group : (q : Select) (keys : List Expr) {xs ys : List Joined} → Perm xs ys → (values : List (List Cell))
      → flat_map (group_row u columns q) (map (group_of u columns keys xs) values) ≡ flat_map (group_row u columns q) (map (group_of u columns keys ys) values)
  each_group q keys p [] = refl
  each_group q keys p (v ∷ values) = λ i. group_row_same q v (filtered (λ row. same_row v (key_list u columns keys row)) p) i ++ each_group q keys p values i

  groups_same : (q : Select) (keys : List Expr) {xs ys : List Joined} → Perm xs ys → Perm (flat_map (group_row u columns q) (groups u columns keys xs)) (flat_map (group_row u columns q) (groups u columns keys ys))
  groups_same q [] p = is _ _ (λ i. group_row_same q [] p i ++ [])
  groups_same q (k ∷ ks) {xs} {ys} p =
      trans (flat (group_row u columns q) (mapped (group_of u columns (k ∷ ks) xs) (rows_same (mapped (key_list u columns (k ∷ ks)) p))))
      (is _ _ (each_group q (k ∷ ks) p (distinct same_row (map (key_list u columns (k ∷ ks)) ys))))

  made_same : (q : Select) {xs ys : List Joined} → Perm xs ys → Perm (made_rows u columns q xs) (made_rows u columns q ys)
  made_same q {xs} {ys} p = go q.grouped
    where
      go : (b : Bool) → Perm (cond b (grouped_rows u columns q xs) (plain_rows u columns q xs)) (cond b (grouped_rows u columns q ys) (plain_rows u columns q ys))
      go true = groups_same q q.keys p
      go false = mapped (λ row. item_row q.items (row_scope u columns row)) p

  -- what a SELECT makes of the rows of its FROM
  abbrev finished : Select → List Joined → List Row
  finished q rows = cond q.distinct (distinct same_row (made_rows u columns q (filter (row_holds u columns q.filter) rows))) (made_rows u columns q (filter (row_holds u columns q.filter) rows))

  finished_same : (q : Select) {xs ys : List Joined} → Perm xs ys → Perm (finished q xs) (finished q ys)
  finished_same q {xs} {ys} p = go q.distinct (made_same q (filtered (row_holds u columns q.filter) p))
    where
      go : (b : Bool) {rs ss : List Row} → Perm rs ss → Perm (cond b (distinct same_row rs) rs) (cond b (distinct same_row ss) ss)
      go true r = rows_same r
      go false r = r

module _ (u : Bounds) (a b : List Input) where
  abbrev pub Named_same : Name → Type 0
  Named_same name = IsSame (relation a [] (Named name)) (relation b [] (Named name))

  abbrev Ctes_same : List Input → List Input → Type 0
  Ctes_same xs ys = AllZip (λ x y. IsSame (Some x) (Some y)) xs ys

  get_same : (xs ys : List Input) → Ctes_same xs ys → (k : ℕ) → IsSame (slice_get xs k) (slice_get ys k)
  get_same [] [] h k = record { columns = refl; rows = nil }
  get_same [] (y ∷ ys) h k = absurd h
  get_same (x ∷ xs) [] h k = absurd h
  get_same (x ∷ xs) (y ∷ ys) h zero = h.0
  get_same (x ∷ xs) (y ∷ ys) h (suc k) = get_same xs ys h.1 k

  module _ (xs ys : List Input) (ctes : Ctes_same xs ys) where
    abbrev From_same : FromItem → Type 0
    From_same f = IsSame (relation a xs f.rel) (relation b ys f.rel)

    rel_same : (r : Rel) → Each Named_same (rel_names r) → IsSame (relation a xs r) (relation b ys r)
    rel_same (Named name) h = h.0
    rel_same (Cte k) h = get_same xs ys ctes k

    froms_same : (froms : List FromItem) → Each Named_same (from_names froms) → Each From_same froms
    froms_same [] h = tt
    froms_same (f ∷ fs) h = (rel_same f.rel (Each_left Named_same (rel_names f.rel) (from_names fs) h), froms_same fs (Each_right Named_same (rel_names f.rel) (from_names fs) h))

    columns_same : (froms : List FromItem) → Each From_same froms → from_columns a xs froms ≡ from_columns b ys froms
    columns_same [] h = refl
    columns_same (f ∷ fs) h = λ i. h.0.columns i ∷ columns_same fs h.1 i

    join_same : (columns : List (List Column)) (f : FromItem) → From_same f → {ls rs : List Joined} → Perm ls rs → Perm (join_item u columns a xs ls f) (join_item u columns b ys rs f)
    join_same columns f h {ls} {rs} p =
        trans (flat (λ left. kept f.join left (partners u columns f.on left (rows_in (relation a xs f.rel)))) p)
        (flat_each (λ left. kept f.join left (partners u columns f.on left (rows_in (relation a xs f.rel)))) (λ left. kept f.join left (partners u columns f.on left (rows_in (relation b ys f.rel))))
        (λ left. kept_same f.join left (filtered (row_holds u columns f.on) (mapped (λ row. left ++ row ∷ []) h.rows))) rs)

    from_same : (columns : List (List Column)) (froms : List FromItem) → Each From_same froms → {ls rs : List Joined} → Perm ls rs → Perm (fold (join_item u columns a xs) ls froms) (fold (join_item u columns b ys) rs froms)
    from_same columns [] h p = p
    from_same columns (f ∷ fs) h p = from_same columns fs h.1 (join_same columns f h.0 p)

    select_same : (q : Select) → Each Named_same (select_names q) → Perm (select_rows a u xs q) (select_rows b u ys q)
    select_same q h =
        let froms : Each From_same q.from = froms_same q.from h in
        let same_columns : from_columns a xs q.from ≡ from_columns b ys q.from = columns_same q.from froms in
        trans (is _ _ (λ i. finished u (same_columns i) q (from_rows u (same_columns i) a xs q.from)))
        (finished_same u (from_columns b ys q.from) q (from_same (from_columns b ys q.from) q.from froms (same ([] ∷ []))))

    union_same : (selects : List Select) → Each Named_same (selects_names selects) → Perm (union_rows a u xs selects) (union_rows b u ys selects)
    union_same [] h = nil
    union_same (q ∷ qs) h = appended (select_same q (Each_left Named_same (select_names q) (selects_names qs) h)) (union_same qs (Each_right Named_same (select_names q) (selects_names qs) h))

  ctes_same : (xs ys : List Input) → Ctes_same xs ys → (ctes : List (List Select)) → Each Named_same (names_of_all ctes)
      → Ctes_same (fold (λ so_far selects. so_far ++ cte_input a u so_far selects ∷ []) xs ctes) (fold (λ so_far selects. so_far ++ cte_input b u so_far selects ∷ []) ys ctes)
  ctes_same xs ys z [] h = z
  ctes_same xs ys z (c ∷ cs) h =
      ctes_same (xs ++ cte_input a u xs c ∷ []) (ys ++ cte_input b u ys c ∷ [])
      (AllZip-push (λ x y. IsSame (Some x) (Some y)) xs ys (cte_input a u xs c) (cte_input b u ys c) z
      (record { columns = refl; rows = union_same xs ys z c (Each_left Named_same (selects_names c) (names_of_all cs) h) }))
      cs (Each_right Named_same (selects_names c) (names_of_all cs) h)

  pub sel_same : (q : Query) → Each Named_same (names q) → Perm (Sel q a u) (Sel q b u)
  sel_same q h =
      union_same (cte_inputs a u q.ctes) (cte_inputs b u q.ctes)
      (ctes_same [] [] tt q.ctes (Each_left Named_same (names_of_all q.ctes) (selects_names q.selects) h))
      q.selects (Each_right Named_same (names_of_all q.ctes) (selects_names q.selects) h)

-- a query's rows are one bag, over inputs that are
pub sel_bag : (q : Query) (a b : List Input) → HaveSameBags q a b → (u : Bounds) → IsSameBag (Sel q a u) (Sel q b u)
sel_bag q a b h u =
    counts_same (sel_same u a b q (Each_imp (λ name. IsSameTable (named a name) (named b name)) (Named_same u a b)
    (λ name s. record { columns = s.0; rows = bag_is_perm (rows_in (named a name)) (rows_in (named b name)) s.1 }) (names q) (each _ (names q) h)))
