-- Rows that are one bag as far as some columns go are one as far as fewer do.
use Rattle.std.proofs.Common.{◌≡◌, Bool, true, false, cond, ◌||◌, inl, inr, List, [], ◌∷◌, map, refl, sym, ap, ◌∙◌, subst}
use Rattle.std.specs.Prelude.{if◌then◌else◌}
use Rattle.std.specs.List.{filter}
use Rattle.std.specs.Option.{option_to_list}
use Rattle.std.specs.Ordering.{is_eq}
use Rattle.std.specs.declared.option.Option.{Option}
use Rattle.std.specs.declared.option.Option.TheVariants.{Some}
use Rattle.std.proofs.lemmas.Cmp.{tied_itself}
use Rattle.mesh_base_values.specs.Bag.{IsSameBag}
use Rattle.mesh_base_values.specs.NameOrder.{names_exact, names_total}
use Rattle.mesh_base_values.specs.Names.{name_cmp}
use Rattle.mesh_base_values.specs.Picked.{same_text, cell_of, picked_row, picked_rows}
use Rattle.mesh_base_values.specs.declared.values.Cell.TheVariants.{Null}
use Rattle.mesh_base_values.specs.declared.values.ColType.TheVariants.{Text}
use Rattle.mesh_base_values.specs.declared.values.Column.{Column}
use Rattle.mesh_base_values.specs.declared.values.Name.{Name}
use Rattle.mesh_base_values.proofs.Equals.{equal_of}
use Rattle.mesh_base.specs.declared.definitions.Reading.{Reading}
use Rattle.mesh_base.specs.declared.jobs.Input.{Input}
use Rattle.mesh_spec_query.specs.Tables.{columns_in, rows_in}
use Rattle.mesh_law_query.specs.Cuts.{cut}
use Rattle.mesh_law_query.specs.Reads.{is_of}
use Rattle.mesh_law_query.proofs.Bags.{bag_is_perm, counts_same}
use Rattle.mesh_law_query.proofs.Cutting.{under}
use Rattle.mesh_law_query.proofs.Has.{Has, Has_filter_from, Has_flat, Has_flat_from, Has_from, Has_map, Has_map_from, Has_to}
use Rattle.mesh_law_query.proofs.Perm.{Perm, mapped}
use Rattle.mesh_law_query.proofs.ReadColumns.{Str, among, text_is, text_self}
use Rattle.mesh_law_query.proofs.Reading.{Row}
use Rattle.mesh_lineage.proofs.Alike.{Within}
use Rattle.mesh_trace.specs.Feeds.{alone, needed_of, with_column}
use Rattle.mesh_trace.specs.declared.traces.Trace.{Trace}
use Rattle.mesh_trace.proofs.Needs.{has_any}
use Rattle.mesh_law_trace.specs.Varied.{AgreeAt, columns_fed}

look : (all : List Str) (cs : List Column) (row : Row) (c : Str) → cell_of (under (λ c. Text) all) (picked_row all cs row) c ≡ cond (among all c) (cell_of cs row c) Null
look [] cs row c = refl
look (n ∷ all) cs row c = go (same_text n c) refl (look all cs row c)
  where
    go : (b : Bool) → same_text n c ≡ b → cell_of (under (λ c. Text) all) (picked_row all cs row) c ≡ cond (among all c) (cell_of cs row c) Null
        → cond b (cell_of cs row n) (cell_of (under (λ c. Text) all) (picked_row all cs row) c) ≡ cond (b || among all c) (cell_of cs row c) Null
    go true e ih = ap (cell_of cs row) (text_is n c e)
    go false e ih = ih

module _ (some all : List Str) (w : (c : Str) → Has c some → Has c all) where
  abbrev again : Row → Row
  again row = picked_row some (under (λ c. Text) all) row

  row_again : (cs : List Column) (row : Row) (names : List Str) → ((c : Str) → Has c names → Has c all) → picked_row names (under (λ c. Text) all) (picked_row all cs row) ≡ picked_row names cs row
  row_again cs row [] v = refl
  row_again cs row (c ∷ names) v =
      let here : among all c ≡ true = has_any (λ n. same_text n c) all c (v c (inl refl)) (text_self c) in
      λ i. (look all cs row c ∙ ap (λ b. cond b (cell_of cs row c) Null) here) i ∷ row_again cs row names (λ d h. v d (inr h)) i

  rows_again : (cs : List Column) (rows : List Row) → map again (picked_rows all cs rows) ≡ picked_rows some cs rows
  rows_again cs [] = refl
  rows_again cs (row ∷ rows) = λ i. row_again cs row some w i ∷ rows_again cs rows i

  pub less_bag : (x y : Option Input) → IsSameBag (cut all x) (cut all y) → IsSameBag (cut some x) (cut some y)
  less_bag x y h =
      counts_same
      (subst (λ l. Perm l (cut some y)) (rows_again (columns_in x) (rows_in x))
      (subst (λ l. Perm (map again (cut all x)) l) (rows_again (columns_in y) (rows_in y))
      (mapped again (bag_is_perm (cut all x) (cut all y) h))))

name_self : (a : Name) → is_eq (name_cmp a a) ≡ true
name_self a = ap is_eq (tied_itself names_total a)

pub same_name : (a b : Name) → is_eq (name_cmp a b) ≡ true → a ≡ b
same_name a b e = names_exact a b (equal_of (name_cmp a b) e)

abbrev of_name : Name → Trace → List Str
of_name name t = if is_eq (name_cmp t.relation name) then option_to_list t.column else []

-- what is needed of a relation is among what is fed
pub needed_in : (fed : List Trace) (needed : List Reading) (name : Name) → Within (map with_column needed) fed → (c : Str) → Has c (needed_of name needed) → Has c (columns_fed fed name)
needed_in fed needed name w c h =
    let (r, i, e) = Has_map_from (λ (r : Reading). r.column) (filter (is_of name) needed) c h in
    let (there, of) = Has_filter_from (is_of name) needed r i in
    Has_flat (of_name name) fed (with_column r) c (w (with_column r) (Has_map with_column needed r (with_column r) there refl)) (subst (λ (b : Bool). Has c (cond b (r.column ∷ []) [])) (sym of) (inl e))

fed_within : (some more : List Trace) (name : Name) → Within some more → (c : Str) → Has c (columns_fed some name) → Has c (columns_fed more name)
fed_within some more name w c h = let (t, i, k) = Has_flat_from (of_name name) some c h in Has_flat (of_name name) more t c (w t i) k

-- and where more agrees, less does
pub agree_less : (some more : List Trace) (name : Name) (a b : Input) → Within some more → AgreeAt more name a b → AgreeAt some name a b
agree_less some more name a b w h there =
    less_bag (columns_fed some name) (columns_fed more name) (fed_within some more name w) (Some a) (Some b)
    (h (Has_to more (alone name) (w (alone name) (Has_from some (alone name) there))))

-- where two agree at a relation, they do as far as is needed of it
pub agree_needed : (fed : List Trace) (needed : List Reading) (name : Name) (a b : Input) → Within (map with_column needed) fed → Has (alone name) fed → AgreeAt fed name a b → IsSameBag (cut (needed_of name needed) (Some a)) (cut (needed_of name needed) (Some b))
agree_needed fed needed name a b w there h = less_bag (needed_of name needed) (columns_fed fed name) (needed_in fed needed name w) (Some a) (Some b) (h (Has_to fed (alone name) there))
