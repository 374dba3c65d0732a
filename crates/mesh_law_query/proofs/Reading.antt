-- A query's rows hang on the columns that it reads, and on no other.
use Rattle.std.proofs.Common.{◌≡◌, ℕ, ◌+◌, suc, zero, Bool, true, false, cond, ◌&&◌, ◌||◌, List, [], ◌∷◌, ◌++◌, map, length, get_or, refl, ap, sym, ◌∙◌, subst, arith, append_assoc, length-append, ◌⊎◌, inl, inr}
use Rattle.std.specs.List.{All, AllZip, filter, flat_map, fold, list_all, slice_get}
use Rattle.std.specs.Option.{option_to_list}
use Rattle.std.specs.declared.option.Option.{Option}
use Rattle.std.specs.declared.option.Option.TheVariants.{None, Some}
use Rattle.std.proofs.lemmas.Bool.{and_parts}
use Rattle.std.proofs.lemmas.List.Folds.{list_all-append}
use Rattle.mesh_base_values.specs.Kinds.{is_incremental}
use Rattle.mesh_base_values.specs.Picked.{same_text, cell_of, picked_row}
use Rattle.mesh_base_values.specs.declared.times.Bounds.{Bounds}
use Rattle.mesh_base_values.specs.declared.values.Cell.{Cell}
use Rattle.mesh_base_values.specs.declared.values.Cell.TheVariants.{Null}
use Rattle.mesh_base_values.specs.declared.values.Column.{Column}
use Rattle.mesh_base_values.specs.declared.values.Name.{Name}
use Rattle.mesh_base.specs.declared.expressions.Expr.{Expr}
use Rattle.mesh_base.specs.declared.definitions.Defn.{Defn}
use Rattle.mesh_base.specs.declared.definitions.Defn.TheVariants.{Seed, Sql}
use Rattle.mesh_base.specs.declared.definitions.Own.{Own}
use Rattle.mesh_base.specs.declared.jobs.Input.{Input}
use Rattle.mesh_base.specs.declared.queries.Item.{Item}
use Rattle.mesh_base.specs.declared.queries.FromItem.{FromItem}
use Rattle.mesh_base.specs.declared.queries.Rel.{Rel}
use Rattle.mesh_base.specs.declared.queries.Rel.TheVariants.{Named, Cte}
use Rattle.mesh_base.specs.declared.queries.Select.{Select}
use Rattle.mesh_base.specs.declared.queries.Query.{Query}
use Rattle.mesh_base.specs.declared.queries.Join.{Join}
use Rattle.mesh_base.specs.declared.queries.Join.TheVariants.{First, Inner, Left, Cross}
use Rattle.mesh_base.specs.rules.Proper.{rel_names, from_names, select_names, selects_names, names_of_all}
use Rattle.mesh_spec_query.specs.Cells.{is_true}
use Rattle.mesh_spec_query.specs.Aggregates.{distinct}
use Rattle.mesh_spec_query.specs.Ev.{Ev, seen, at_row}
use Rattle.mesh_spec_query.specs.Named.{Place, columns, masked, Covers}
use Rattle.mesh_spec_query.specs.Tables.{relation, columns_in, rows_in}
use Rattle.mesh_spec_query.specs.Sel.{Joined, same_row, holds, row_scope, row_holds, partners, kept, join_item, from_columns, from_rows, key_list, group_of, groups, group_scope, item_row, group_row, made_rows, select_rows, union_rows, cte_input, cte_inputs, Sel}
use Rattle.mesh_spec_query.proofs.Shown.{Ev_only}
use Rattle.mesh_spec_model.specs.Scratch.{defn_rows, is_of_unit, no_bounds, piece_over, rows_over}
use Rattle.mesh_law_query.specs.Alike.{names, named}
use Rattle.mesh_law_query.specs.Reads.{expressions, on_of, rel_reading, item_reading, reading_at, select_readings, selects_readings, query_readings, defn_reads}
use Rattle.mesh_law_query.specs.Cuts.{cut, AgreeOnReads}
use Rattle.mesh_law_query.proofs.ReadColumns.{Str, among, text_is, Wanted, each_wanted}
use Rattle.mesh_law_query.proofs.Lists.{Each, each, Each_left, Each_right, Each_map}
use Rattle.mesh_law_query.proofs.Zips.{zip_map, zip_flat, zip_filter, zip_same, zip_of_map, zip_imp, zip_itself}

abbrev pub Row : Type 0
Row = List Cell

null_cell : (cs : List Column) (name : Str) → cell_of cs [] name ≡ Null
null_cell [] name = refl
null_cell (c ∷ cs) name = refl

-- rows that have the same cells in the named columns
same_cells : (all : List Str) (ca cb : List Column) (r s : Row) → picked_row all ca r ≡ picked_row all cb s → (c : Str) → among all c ≡ true → cell_of ca r c ≡ cell_of cb s c
same_cells [] ca cb r s e c h = absurd (cc)
same_cells (n ∷ all) ca cb r s e c h =
    let first : cell_of ca r n ≡ cell_of cb s n = cc in
    let rest : picked_row all ca r ≡ picked_row all cb s = cc in
    either (same_text n c) refl h first (same_cells all ca cb r s rest c)
  where
    either : (b : Bool) → same_text n c ≡ b → (b || among all c) ≡ true → cell_of ca r n ≡ cell_of cb s n → (among all c ≡ true → cell_of ca r c ≡ cell_of cb s c) → cell_of ca r c ≡ cell_of cb s c
    either true m h first later = subst (λ t. cell_of ca r t ≡ cell_of cb s t) (text_is n c m) first
    either false m h first later = later h

-- which columns of which FROM item are read, where of each relation these are
abbrev rel_wanted : (Name → List Str) → Rel → Str → Bool
rel_wanted all (Named n) c = among (all n) c
rel_wanted all (Cte at) c = true

abbrev item_wanted : (Name → List Str) → Option FromItem → Str → Bool
item_wanted all None c = true
item_wanted all (Some f) c = rel_wanted all f.rel c

abbrev wanted : (Name → List Str) → List FromItem → ℕ → Str → Bool
wanted all from item c = item_wanted all (slice_get from item) c

module _ (all : Name → List Str) (from : List FromItem) where
  place_wanted : (c : Str) (o : Option FromItem) → Each (Wanted all) (item_reading c o) → item_wanted all o c ≡ true
  place_wanted c None h = refl
  place_wanted c (Some f) h = go f.rel h
    where
      go : (r : Rel) → Each (Wanted all) (rel_reading c r) → rel_wanted all r c ≡ true
      go (Cte at) h = refl
      go (Named n) h = h.0

  places_wanted : (places : List Place) → Each (Wanted all) (flat_map (reading_at from) places) → list_all (λ (p : Place). wanted all from p.0 p.1) places ≡ true
  places_wanted [] h = refl
  places_wanted ((item, c) ∷ places) h =
      λ i. place_wanted c (slice_get from item) (Each_left (Wanted all) (reading_at from (item, c)) (flat_map (reading_at from) places) h) i
      && places_wanted places (Each_right (Wanted all) (reading_at from (item, c)) (flat_map (reading_at from) places) h) i

  covered : (es : List Expr) → list_all (λ (p : Place). wanted all from p.0 p.1) (flat_map columns es) ≡ true → Each (λ e. Covers (wanted all from) (columns e)) es
  covered [] h = tt
  covered (e ∷ es) h =
      let both = and_parts (list_all (λ (p : Place). wanted all from p.0 p.1) (columns e)) (list_all (λ (p : Place). wanted all from p.0 p.1) (flat_map columns es))
      (sym (list_all-append (λ (p : Place). wanted all from p.0 p.1) (columns e) (flat_map columns es)) ∙ h) in
      (both.0, covered es both.1)

-- a SELECT all of whose expressions read no other column
record AreCovered (w : ℕ → Str → Bool) (s : Select) : Type 0 where
  items : Each (λ (i : Item). Covers w (columns i.expr)) s.items
  ons : Each (λ e. Covers w (columns e)) (on_of s.from)
  filters : Each (λ e. Covers w (columns e)) (option_to_list s.filter)
  keys : Each (λ e. Covers w (columns e)) s.keys
  havings : Each (λ e. Covers w (columns e)) (option_to_list s.having)

select_covered : (all : Name → List Str) (s : Select) → Each (Wanted all) (select_readings s) → AreCovered (wanted all s.from) s
select_covered all s h =
    let P : Expr → Type 0 = λ e. Covers (wanted all s.from) (columns e) in
    let es : Each P (expressions s) = covered all s.from (expressions s) (places_wanted all s.from (flat_map columns (expressions s)) h) in
    let shown = map (λ (i : Item). i.expr) s.items in
    let last = s.keys ++ option_to_list s.having in
    let b : Each P (on_of s.from ++ (option_to_list s.filter ++ last)) = Each_right P shown (on_of s.from ++ (option_to_list s.filter ++ last)) es in
    let c : Each P (option_to_list s.filter ++ last) = Each_right P (on_of s.from) (option_to_list s.filter ++ last) b in
    let d : Each P last = Each_right P (option_to_list s.filter) last c in
    record {
      items = Each_map P (λ (i : Item). i.expr) s.items (Each_left P shown (on_of s.from ++ (option_to_list s.filter ++ last)) es);
      ons = Each_left P (on_of s.from) (option_to_list s.filter ++ last) b;
      filters = Each_left P (option_to_list s.filter) last c;
      keys = Each_left P s.keys (option_to_list s.having) d;
      havings = Each_right P s.keys (option_to_list s.having) d;
    }

-- Where a joined row and one more row have a row of an item: in the joined row, or the item is the last and it is the
-- new one.
abbrev Place_of : Row → Row → Joined → Joined → ℕ → Type 0
Place_of r s x y item =
    ((get_or (x ++ r ∷ []) item [] ≡ get_or x item []) × (get_or (y ++ s ∷ []) item [] ≡ get_or y item []))
    ⊎ ((item ≡ length x) × (get_or (x ++ r ∷ []) item [] ≡ r) × (get_or (y ++ s ∷ []) item [] ≡ s))

place : (r s : Row) (x y : Joined) → length x ≡ length y → (item : ℕ) → Place_of r s x y item
place r s [] [] e zero = inr (refl, refl, refl)
place r s [] [] e (suc item) = inl (refl, refl)
place r s [] (y ∷ ys) e item = absurd (omega arith)
place r s (x ∷ xs) [] e item = absurd (omega arith)
place r s (x ∷ xs) (y ∷ ys) e zero = inl (refl, refl)
place r s (x ∷ xs) (y ∷ ys) e (suc item) = go (place r s xs ys (omega arith) item)
  where
    go : Place_of r s xs ys item → Place_of r s (x ∷ xs) (y ∷ ys) (suc item)
    go (inl p) = inl p
    go (inr (i, p, q)) = inr (ap suc i, p, q)

unmask : (v : Bool) (x y : Cell) → v ≡ true → cond v x Null ≡ cond v y Null → x ≡ y
unmask true x y e h = h
unmask false x y e h = absurd (cc)

-- Two tables' columns for the items of one FROM, and a test of which of them are read.
module _ (w : ℕ → Str → Bool) (u : Bounds) (ca cb : List (List Column)) where
  -- joined rows of k rows each that show the same
  abbrev Alike : ℕ → Joined → Joined → Type 0
  Alike k x y = (length x ≡ k) × (length y ≡ k) × (masked w (seen ca x) ≡ masked w (seen cb y))

  value_same : (e : Expr) → Covers w (columns e) → (x y : Joined) → masked w (seen ca x) ≡ masked w (seen cb y) → Ev e (row_scope u ca x) ≡ Ev e (row_scope u cb y)
  value_same e h x y m = sym (Ev_only w e h (row_scope u ca x)) ∙ ap (λ s. Ev e (at_row u s)) m ∙ Ev_only w e h (row_scope u cb y)

  holds_same : (o : Option Expr) → Each (λ e. Covers w (columns e)) (option_to_list o) → (x y : Joined) → masked w (seen ca x) ≡ masked w (seen cb y) → row_holds u ca o x ≡ row_holds u cb o y
  holds_same None h x y m = refl
  holds_same (Some e) h x y m = ap is_true (value_same e h.0 x y m)

  nothing_same : masked w (seen ca []) ≡ masked w (seen cb [])
  nothing_same = λ i item c. cond (w item c) ((null_cell (get_or ca item []) c ∙ sym (null_cell (get_or cb item []) c)) i) Null

  -- two rows that show the same in the columns of the item at k
  abbrev Agree : ℕ → Row → Row → Type 0
  Agree k r s = (c : Str) → w k c ≡ true → cell_of (get_or ca k []) r c ≡ cell_of (get_or cb k []) s c

  more_at : (k : ℕ) (x y : Joined) (r s : Row) → Alike k x y → Agree k r s → (item : ℕ) (c : Str) (v : Bool) → w item c ≡ v
      → cond v (cell_of (get_or ca item []) (get_or (x ++ r ∷ []) item []) c) Null ≡ cond v (cell_of (get_or cb item []) (get_or (y ++ s ∷ []) item []) c) Null
  more_at k x y r s al ag item c false e = refl
  more_at k x y r s al ag item c true e = go (place r s x y (al.0 ∙ sym al.1) item)
    where
      go : Place_of r s x y item → cell_of (get_or ca item []) (get_or (x ++ r ∷ []) item []) c ≡ cell_of (get_or cb item []) (get_or (y ++ s ∷ []) item []) c
      go (inl (p, q)) = ap (λ t. cell_of (get_or ca item []) t c) p ∙ unmask (w item c) (cell_of (get_or ca item []) (get_or x item []) c) (cell_of (get_or cb item []) (get_or y item []) c) e (λ i. al.2 i item c) ∙ sym (ap (λ t. cell_of (get_or cb item []) t c) q)
      go (inr (i, p, q)) =
          let at : item ≡ k = i ∙ al.0 in
          ap (λ t. cell_of (get_or ca item []) t c) p
          ∙ subst (λ t. w t c ≡ true → cell_of (get_or ca t []) r c ≡ cell_of (get_or cb t []) s c) (sym at) (ag c) e
          ∙ sym (ap (λ t. cell_of (get_or cb item []) t c) q)

  pair_alike : (k : ℕ) (x y : Joined) (r s : Row) → Alike k x y → Agree k r s → Alike (k + 1) (x ++ r ∷ []) (y ++ s ∷ [])
  pair_alike k x y r s al ag =
      (length-append x (r ∷ []) ∙ ap (λ n. n + 1) al.0, length-append y (s ∷ []) ∙ ap (λ n. n + 1) al.1, λ i item c. more_at k x y r s al ag item c (w item c) refl i)

  kept_zip : (k : ℕ) (j : Join) (x y : Joined) → Alike k x y → (ps qs : List Joined) → AllZip (Alike (k + 1)) ps qs → AllZip (Alike (k + 1)) (kept j x ps) (kept j y qs)
  kept_zip k First x y al ps qs z = z
  kept_zip k Inner x y al ps qs z = z
  kept_zip k Cross x y al ps qs z = z
  kept_zip k Left x y al [] [] z = (pair_alike k x y [] [] al (λ c e. null_cell (get_or ca k []) c ∙ sym (null_cell (get_or cb k []) c)), tt)
  kept_zip k Left x y al [] (q ∷ qs) z = absurd z
  kept_zip k Left x y al (p ∷ ps) [] z = absurd z
  kept_zip k Left x y al (p ∷ ps) (q ∷ qs) z = z

  partners_zip : (k : ℕ) (o : Option Expr) → Each (λ e. Covers w (columns e)) (option_to_list o) → (x y : Joined) → Alike k x y → (rs ss : List Row) → AllZip (Agree k) rs ss
      → AllZip (Alike (k + 1)) (partners u ca o x rs) (partners u cb o y ss)
  partners_zip k o h x y al rs ss z =
      zip_filter (Alike (k + 1)) (row_holds u ca o) (row_holds u cb o) (λ p q m. holds_same o h p q m.2) (map (λ row. x ++ row ∷ []) rs) (map (λ row. y ++ row ∷ []) ss)
      (zip_map (Agree k) (Alike (k + 1)) (λ row. x ++ row ∷ []) (λ row. y ++ row ∷ []) (λ r s ag. pair_alike k x y r s al ag) rs ss z)

  abbrev Shown : Joined → Joined → Type 0
  Shown x y = masked w (seen ca x) ≡ masked w (seen cb y)

  items_same : (items : List Item) → Each (λ (i : Item). Covers w (columns i.expr)) items → (x y : Joined) → Shown x y → item_row items (row_scope u ca x) ≡ item_row items (row_scope u cb y)
  items_same [] h x y m = refl
  items_same (item ∷ items) h x y m = λ i. value_same item.expr h.0 x y m i ∷ items_same items h.1 x y m i

  keys_same : (keys : List Expr) → Each (λ e. Covers w (columns e)) keys → (x y : Joined) → Shown x y → key_list u ca keys x ≡ key_list u cb keys y
  keys_same [] h x y m = refl
  keys_same (e ∷ es) h x y m = λ i. value_same e h.0 x y m i ∷ keys_same es h.1 x y m i

  masked_all : (xs ys : List Joined) → AllZip Shown xs ys → map (masked w) (map (seen ca) xs) ≡ map (masked w) (map (seen cb) ys)
  masked_all [] [] z = refl
  masked_all [] (y ∷ ys) z = absurd z
  masked_all (x ∷ xs) [] z = absurd z
  masked_all (x ∷ xs) (y ∷ ys) z = λ i. z.0 i ∷ masked_all xs ys z.1 i

  module _ (keys : List Expr) (values : List Cell) (xs ys : List Joined) (z : AllZip Shown xs ys) where
    group_value_same : (e : Expr) → Covers w (columns e) → Ev e (group_scope u ca keys (record { key_values = values; rows = xs })) ≡ Ev e (group_scope u cb keys (record { key_values = values; rows = ys }))
    group_value_same e h =
        sym (Ev_only w e h (group_scope u ca keys (record { key_values = values; rows = xs })))
        ∙ (λ i. Ev e (record { column = nothing_same i; keys = keys; key_values = values; group = Some (masked_all xs ys z i); bounds = u }))
        ∙ Ev_only w e h (group_scope u cb keys (record { key_values = values; rows = ys }))

    group_items_same : (items : List Item) → Each (λ (i : Item). Covers w (columns i.expr)) items
        → item_row items (group_scope u ca keys (record { key_values = values; rows = xs })) ≡ item_row items (group_scope u cb keys (record { key_values = values; rows = ys }))
    group_items_same [] h = refl
    group_items_same (item ∷ items) h = λ i. group_value_same item.expr h.0 i ∷ group_items_same items h.1 i

    group_holds_same : (o : Option Expr) → Each (λ e. Covers w (columns e)) (option_to_list o)
        → holds o (group_scope u ca keys (record { key_values = values; rows = xs })) ≡ holds o (group_scope u cb keys (record { key_values = values; rows = ys }))
    group_holds_same None h = refl
    group_holds_same (Some e) h = ap is_true (group_value_same e h.0)

  group_row_same : (q : Select) → AreCovered w q → (values : List Cell) (xs ys : List Joined) → AllZip Shown xs ys
      → group_row u ca q (record { key_values = values; rows = xs }) ≡ group_row u cb q (record { key_values = values; rows = ys })
  group_row_same q h values xs ys z = λ i. cond (group_holds_same q.keys values xs ys z q.having h.havings i) (group_items_same q.keys values xs ys z q.items h.items i ∷ []) []

  each_group : (q : Select) → AreCovered w q → (keys : List Expr) → Each (λ e. Covers w (columns e)) keys → (xs ys : List Joined) → AllZip Shown xs ys → (values : List (List Cell))
      → flat_map (group_row u ca q) (map (group_of u ca keys xs) values) ≡ flat_map (group_row u cb q) (map (group_of u cb keys ys) values)
  each_group q h keys k xs ys z [] = refl
  each_group q h keys k xs ys z (v ∷ values) =
      λ i. group_row_same q h v (filter (λ row. same_row v (key_list u ca keys row)) xs) (filter (λ row. same_row v (key_list u cb keys row)) ys)
      (zip_filter Shown (λ row. same_row v (key_list u ca keys row)) (λ row. same_row v (key_list u cb keys row)) (λ x y m. ap (same_row v) (keys_same keys k x y m)) xs ys z) i
      ++ each_group q h keys k xs ys z values i

  groups_same : (q : Select) → AreCovered w q → (keys : List Expr) → Each (λ e. Covers w (columns e)) keys → (xs ys : List Joined) → AllZip Shown xs ys
      → flat_map (group_row u ca q) (groups u ca keys xs) ≡ flat_map (group_row u cb q) (groups u cb keys ys)
  groups_same q h [] k xs ys z = λ i. group_row_same q h [] xs ys z i ++ []
  groups_same q h (e ∷ es) k xs ys z =
      ap (λ vs. flat_map (group_row u ca q) (map (group_of u ca (e ∷ es) xs) (distinct same_row vs))) (zip_same Shown (key_list u ca (e ∷ es)) (key_list u cb (e ∷ es)) (keys_same (e ∷ es) k) xs ys z)
      ∙ each_group q h (e ∷ es) k xs ys z (distinct same_row (map (key_list u cb (e ∷ es)) ys))

  made_same : (q : Select) → AreCovered w q → (xs ys : List Joined) → AllZip Shown xs ys → made_rows u ca q xs ≡ made_rows u cb q ys
  made_same q h xs ys z = λ i. cond q.grouped (groups_same q h q.keys h.keys xs ys z i)
      (zip_same Shown (λ row. item_row q.items (row_scope u ca row)) (λ row. item_row q.items (row_scope u cb row)) (items_same q.items h.items) xs ys z i)

  finished_same : (q : Select) → AreCovered w q → (xs ys : List Joined) → AllZip Shown xs ys
      → cond q.distinct (distinct same_row (made_rows u ca q (filter (row_holds u ca q.filter) xs))) (made_rows u ca q (filter (row_holds u ca q.filter) xs))
      ≡ cond q.distinct (distinct same_row (made_rows u cb q (filter (row_holds u cb q.filter) ys))) (made_rows u cb q (filter (row_holds u cb q.filter) ys))
  finished_same q h xs ys z =
      ap (λ rows. cond q.distinct (distinct same_row rows) rows)
      (made_same q h (filter (row_holds u ca q.filter) xs) (filter (row_holds u cb q.filter) ys) (zip_filter Shown (row_holds u ca q.filter) (row_holds u cb q.filter) (holds_same q.filter h.filters) xs ys z))

at_seam : (before after : List FromItem) (f : FromItem) → slice_get (before ++ f ∷ after) (length before) ≡ Some f
at_seam [] after f = refl
at_seam (b ∷ before) after f = at_seam before after f

at_seam_map : (g : FromItem → List Column) (before after : List FromItem) (f : FromItem) → get_or (map g (before ++ f ∷ after)) (length before) [] ≡ g f
at_seam_map g [] after f = refl
at_seam_map g (b ∷ before) after f = at_seam_map g before after f

module _ (u : Bounds) (a b : List Input) (all : Name → List Str) where
  abbrev Cut_same : Name → Type 0
  Cut_same name = cut (all name) (named a name) ≡ cut (all name) (named b name)

  module _ (ctes : List Input) where
    rel_agree : (r : Rel) → Each Cut_same (rel_names r)
        → AllZip (λ p q. (c : Str) → rel_wanted all r c ≡ true → cell_of (columns_in (relation a ctes r)) p c ≡ cell_of (columns_in (relation b ctes r)) q c) (rows_in (relation a ctes r)) (rows_in (relation b ctes r))
    rel_agree (Named n) h =
        zip_imp (λ p q. picked_row (all n) (columns_in (named a n)) p ≡ picked_row (all n) (columns_in (named b n)) q)
        (λ p q. (c : Str) → among (all n) c ≡ true → cell_of (columns_in (named a n)) p c ≡ cell_of (columns_in (named b n)) q c)
        (λ p q e. same_cells (all n) (columns_in (named a n)) (columns_in (named b n)) p q e) (rows_in (named a n)) (rows_in (named b n))
        (zip_of_map (picked_row (all n) (columns_in (named a n))) (picked_row (all n) (columns_in (named b n))) (rows_in (named a n)) (rows_in (named b n)) h.0)
    rel_agree (Cte k) h =
        zip_itself (λ p q. (c : Str) → true ≡ true → cell_of (columns_in (slice_get ctes k)) p c ≡ cell_of (columns_in (slice_get ctes k)) q c) (λ p c e. refl) (rows_in (slice_get ctes k))

    module _ (from : List FromItem) where
      abbrev w : ℕ → Str → Bool
      w = wanted all from

      abbrev ca : List (List Column)
      ca = from_columns a ctes from

      abbrev cb : List (List Column)
      cb = from_columns b ctes from

      rows_agree : (before after : List FromItem) (f : FromItem) → before ++ f ∷ after ≡ from → Each Cut_same (rel_names f.rel)
          → AllZip (Agree w u ca cb (length before)) (rows_in (relation a ctes f.rel)) (rows_in (relation b ctes f.rel))
      rows_agree before after f e h =
          let k = length before in
          let g : List Input → FromItem → List Column = λ inputs item. columns_in (relation inputs ctes item.rel) in
          let here : slice_get from k ≡ Some f = subst (λ l. slice_get l k ≡ Some f) e (at_seam before after f) in
          let left : get_or ca k [] ≡ g a f = subst (λ l. get_or (map (g a) l) k [] ≡ g a f) e (at_seam_map (g a) before after f) in
          let right : get_or cb k [] ≡ g b f = subst (λ l. get_or (map (g b) l) k [] ≡ g b f) e (at_seam_map (g b) before after f) in
          zip_imp (λ p q. (c : Str) → rel_wanted all f.rel c ≡ true → cell_of (g a f) p c ≡ cell_of (g b f) q c) (Agree w u ca cb k)
          (λ p q ag c m. ap (λ cs. cell_of cs p c) left ∙ ag c (sym (ap (λ o. item_wanted all o c) here) ∙ m) ∙ sym (ap (λ cs. cell_of cs q c) right))
          (rows_in (relation a ctes f.rel)) (rows_in (relation b ctes f.rel)) (rel_agree f.rel h)

      from_zip : (before after : List FromItem) → before ++ after ≡ from → Each Cut_same (from_names after) → Each (λ e. Covers w (columns e)) (on_of after) → (xs ys : List Joined) → AllZip (Alike w u ca cb (length before)) xs ys
          → AllZip (Shown w u ca cb) (fold (join_item u ca a ctes) xs after) (fold (join_item u cb b ctes) ys after)
      from_zip before [] e h o xs ys z = zip_imp (Alike w u ca cb (length before)) (Shown w u ca cb) (λ x y al. al.2) xs ys z
      from_zip before (f ∷ fs) e h o xs ys z =
          let k = length before in
          let agree = rows_agree before fs f e (Each_left Cut_same (rel_names f.rel) (from_names fs) h) in
          let on = Each_left (λ e. Covers w (columns e)) (option_to_list f.on) (on_of fs) o in
          let next : AllZip (Alike w u ca cb (k + 1)) (join_item u ca a ctes xs f) (join_item u cb b ctes ys f) =
          zip_flat (Alike w u ca cb k) (Alike w u ca cb (k + 1))
          (λ left. kept f.join left (partners u ca f.on left (rows_in (relation a ctes f.rel))))
          (λ left. kept f.join left (partners u cb f.on left (rows_in (relation b ctes f.rel))))
          (λ x y al. kept_zip w u ca cb k f.join x y al (partners u ca f.on x (rows_in (relation a ctes f.rel))) (partners u cb f.on y (rows_in (relation b ctes f.rel)))
          (partners_zip w u ca cb k f.on on x y al (rows_in (relation a ctes f.rel)) (rows_in (relation b ctes f.rel)) agree)) xs ys z in
          from_zip (before ++ f ∷ []) fs (append_assoc before (f ∷ []) fs ∙ e) (Each_right Cut_same (rel_names f.rel) (from_names fs) h) (Each_right (λ e. Covers w (columns e)) (option_to_list f.on) (on_of fs) o)
          (join_item u ca a ctes xs f) (join_item u cb b ctes ys f)
          (subst (λ n. AllZip (Alike w u ca cb n) (join_item u ca a ctes xs f) (join_item u cb b ctes ys f)) (sym (length-append before (f ∷ []))) next)

    select_same : (q : Select) → Each Cut_same (select_names q) → Each (Wanted all) (select_readings q) → select_rows a u ctes q ≡ select_rows b u ctes q
    select_same q h r =
        let covers = select_covered all q r in
        finished_same (w q.from) u (ca q.from) (cb q.from) q covers (from_rows u (ca q.from) a ctes q.from) (from_rows u (cb q.from) b ctes q.from)
        (from_zip q.from [] q.from refl h covers.ons ([] ∷ []) ([] ∷ []) ((refl, refl, nothing_same (w q.from) u (ca q.from) (cb q.from)), tt))

    union_same : (selects : List Select) → Each Cut_same (selects_names selects) → Each (Wanted all) (selects_readings selects) → union_rows a u ctes selects ≡ union_rows b u ctes selects
    union_same [] h r = refl
    union_same (q ∷ qs) h r =
        λ i. select_same q (Each_left Cut_same (select_names q) (selects_names qs) h) (Each_left (Wanted all) (select_readings q) (selects_readings qs) r) i
        ++ union_same qs (Each_right Cut_same (select_names q) (selects_names qs) h) (Each_right (Wanted all) (select_readings q) (selects_readings qs) r) i

  ctes_same : (so_far : List Input) (ctes : List (List Select)) → Each Cut_same (names_of_all ctes) → Each (Wanted all) (flat_map selects_readings ctes)
      → fold (λ so_far selects. so_far ++ cte_input a u so_far selects ∷ []) so_far ctes ≡ fold (λ so_far selects. so_far ++ cte_input b u so_far selects ∷ []) so_far ctes
  ctes_same so_far [] h r = refl
  ctes_same so_far (c ∷ cs) h r =
      ap (λ rows. fold (λ so_far selects. so_far ++ cte_input a u so_far selects ∷ []) (so_far ++ record (cte_input a u so_far c) { rows = rows } ∷ []) cs)
      (union_same so_far c (Each_left Cut_same (selects_names c) (names_of_all cs) h) (Each_left (Wanted all) (selects_readings c) (flat_map selects_readings cs) r))
      ∙ ctes_same (so_far ++ cte_input b u so_far c ∷ []) cs (Each_right Cut_same (selects_names c) (names_of_all cs) h) (Each_right (Wanted all) (selects_readings c) (flat_map selects_readings cs) r)

-- a query's rows, over inputs that agree on columns among which all are that it reads
pub sel_over : (q : Query) (a b : List Input) (all : Name → List Str) → Each (Wanted all) (query_readings q) → All (λ name. cut (all name) (named a name) ≡ cut (all name) (named b name)) (names q) → (u : Bounds) → Sel q a u ≡ Sel q b u
sel_over q a b all r h u =
    let P : Name → Type 0 = Cut_same u a b all in
    let same = each P (names q) h in
    ap (λ ctes. union_rows a u ctes q.selects)
    (ctes_same u a b all [] q.ctes (Each_left P (names_of_all q.ctes) (selects_names q.selects) same) (Each_left (Wanted all) (flat_map selects_readings q.ctes) (selects_readings q.selects) r))
    ∙ union_same u a b all (cte_inputs b u q.ctes) q.selects (Each_right P (names_of_all q.ctes) (selects_names q.selects) same) (Each_right (Wanted all) (flat_map selects_readings q.ctes) (selects_readings q.selects) r)

-- and over inputs that agree on what it reads
pub sel_reads : (q : Query) (a b : List Input) → AgreeOnReads (Sql q) a b → (u : Bounds) → Sel q a u ≡ Sel q b u
sel_reads q a b h u = sel_over q a b (defn_reads (Sql q)) (each_wanted q) h u

pub rows_read : (d : Defn) (a b : List Input) → AgreeOnReads d a b → (u : Bounds) → defn_rows d a u ≡ defn_rows d b u
rows_read (Seed columns rows) a b h u = refl
rows_read (Sql q) a b h u = sel_reads q a b h u

pub piece_read : (own : Own) (a b : List Input) → AgreeOnReads own.defn a b → (u : Bounds) → piece_over own a u ≡ piece_over own b u
piece_read own a b h u = ap (filter (is_of_unit own u)) (rows_read own.defn a b h u)

pub over_read : (own : Own) (a b : List Input) → AgreeOnReads own.defn a b → (units : List Bounds) → rows_over own a units ≡ rows_over own b units
over_read own a b h units = λ i. cond (is_incremental own.kind) (flat_map (λ u. piece_read own a b h u i) units) (rows_read own.defn a b h no_bounds i)
