-- A query whose FROM items are bound to a unit has the same rows over tables without the rows that aren't near.
use Rattle.std.proofs.Common.{◌≡◌, ℕ, suc, true, cond, List, [], ◌∷◌, ◌++◌, length, refl, ap, ◌∙◌, subst}
use Rattle.std.specs.Prelude.{slice_index_or}
use Rattle.std.specs.List.{filter, fold, list_all}
use Rattle.std.proofs.lemmas.Bool.{and_parts}
use Rattle.std.proofs.lemmas.List.{append_assoc}
use Rattle.mesh_base_values.specs.declared.times.Bounds.{Bounds}
use Rattle.mesh_base_values.specs.declared.values.Cell.{Cell}
use Rattle.mesh_base_values.specs.declared.values.Column.{Column}
use Rattle.mesh_base_values.specs.declared.values.Name.{Name}
use Rattle.mesh_base.specs.declared.definitions.Defn.{Defn}
use Rattle.mesh_base.specs.declared.definitions.Defn.TheVariants.{Seed, Sql}
use Rattle.mesh_base.specs.declared.definitions.Own.{Own}
use Rattle.mesh_base.specs.declared.jobs.Input.{Input}
use Rattle.mesh_base.specs.declared.queries.FromItem.{FromItem}
use Rattle.mesh_base.specs.declared.queries.Rel.{Rel}
use Rattle.mesh_base.specs.declared.queries.Rel.TheVariants.{Named, Cte}
use Rattle.mesh_base.specs.declared.queries.Select.{Select}
use Rattle.mesh_spec_query.specs.Aggregates.{distinct}
use Rattle.mesh_spec_query.specs.Tables.{columns_in, relation, rows_in}
use Rattle.mesh_spec_query.specs.Sel.{Joined, cte_input, cte_inputs, from_columns, from_rows, made_rows, row_holds, same_row, select_rows, union_rows}
use Rattle.mesh_spec_model.specs.Closures.{Closures}
use Rattle.mesh_spec_model.specs.Scratch.{defn_rows}
use Rattle.mesh_law_query.specs.Alike.{named}
use Rattle.mesh_spec_changes.specs.steady.Steady.{are_items_bound, are_selects_bound, is_defn_bound, is_item_bound, is_relation_bound, source_declared}
use Rattle.mesh_law_steady.specs.Days.{IsOfDay}
use Rattle.mesh_law_steady.proofs.Dropping.{FitAll, Fits, same, rows_let_through}

module _ (own : Own) (parents : Closures) (u : Bounds) (of : IsOfDay u) (a b : List Input) where
  -- what stands under a name in both fits each FROM item that is bound
  abbrev pub NameFits : Name → Type 0
  NameFits name =
      (columns_in (named a name) ≡ columns_in (named b name))
      × ((q : Select) (k : ℕ) (f : FromItem) → is_relation_bound parents q k f name (source_declared own name) ≡ true → Fits u q k f (columns_in (named a name)) (rows_in (named a name)) (rows_in (named b name)))

  module _ (fit : (name : Name) → NameFits name) where
    module _ (ctes : List Input) where
      abbrev columns : Rel → List Column
      columns rel = columns_in (relation a ctes rel)

      one_columns : (rel : Rel) → columns rel ≡ columns_in (relation b ctes rel)
      one_columns (Named name) = (fit name).0
      one_columns (Cte at) = refl

      all_columns : (fs : List FromItem) → from_columns a ctes fs ≡ from_columns b ctes fs
      all_columns [] = refl
      all_columns (f ∷ fs) = λ i. one_columns f.rel i ∷ all_columns fs i

      item_fits : (q : Select) (k : ℕ) (f : FromItem) (rel : Rel) → is_item_bound own parents q k f rel ≡ true → Fits u q k f (columns rel) (rows_in (relation a ctes rel)) (rows_in (relation b ctes rel))
      item_fits q k f (Named name) h = (fit name).1 q k f h
      item_fits q k f (Cte at) h = same

      at_seam : (before after : List FromItem) (f : FromItem) → slice_index_or (from_columns a ctes (before ++ f ∷ after)) (length before) [] ≡ columns f.rel
      at_seam [] after f = refl
      at_seam (g ∷ before) after f = at_seam before after f

      one_longer : (before : List FromItem) (f : FromItem) → length (before ++ f ∷ []) ≡ suc (length before)
      one_longer [] f = refl
      one_longer (g ∷ before) f = ap suc (one_longer before f)

      items_fit : (q : Select) (before fs : List FromItem) (k : ℕ) → length before ≡ k → before ++ fs ≡ q.from → are_items_bound own parents q k fs ≡ true → FitAll u of (from_columns a ctes q.from) q a b ctes k fs
      items_fit q before [] k long whole h = tt
      items_fit q before (f ∷ fs) k long whole h =
          let p = and_parts (is_item_bound own parents q k f f.rel) (are_items_bound own parents q (suc k) fs) h in (
            subst (λ n. slice_index_or (from_columns a ctes q.from) n [] ≡ columns f.rel) long (subst (λ l. slice_index_or (from_columns a ctes l) (length before) [] ≡ columns f.rel) whole (at_seam before fs f)),
            item_fits q k f f.rel p.0,
            items_fit q (before ++ f ∷ []) fs (suc k) (one_longer before f ∙ ap suc long) (append_assoc before (f ∷ []) fs ∙ whole) p.1,
          )

      -- what a SELECT makes of the rows of its FROM
      abbrev finished : Select → List (List Column) → List Joined → List (List Cell)
      finished q cs rows = cond q.distinct (distinct same_row (made_rows u cs q rows)) (made_rows u cs q rows)

      select_same : (q : Select) → are_items_bound own parents q 0 q.from ≡ true → select_rows a u ctes q ≡ select_rows b u ctes q
      select_same q h =
          ap (finished q (from_columns a ctes q.from)) (rows_let_through u of (from_columns a ctes q.from) q a b ctes (items_fit q [] q.from 0 refl refl h))
          ∙ ap (λ cs. finished q cs (filter (row_holds u cs q.filter) (from_rows u cs b ctes q.from))) (all_columns q.from)

      union_same : (selects : List Select) → are_selects_bound own parents selects ≡ true → union_rows a u ctes selects ≡ union_rows b u ctes selects
      union_same [] h = refl
      union_same (q ∷ qs) h =
          let p = and_parts (are_items_bound own parents q 0 q.from) (are_selects_bound own parents qs) h in
          λ i. select_same q p.0 i ++ union_same qs p.1 i

    ctes_same : (so_far : List Input) (ctes : List (List Select)) → list_all (are_selects_bound own parents) ctes ≡ true
        → fold (λ so_far selects. so_far ++ cte_input a u so_far selects ∷ []) so_far ctes ≡ fold (λ so_far selects. so_far ++ cte_input b u so_far selects ∷ []) so_far ctes
    ctes_same so_far [] h = refl
    ctes_same so_far (c ∷ cs) h =
        let p = and_parts (are_selects_bound own parents c) (list_all (are_selects_bound own parents) cs) h in
        ap (λ rows. fold (λ so_far selects. so_far ++ cte_input a u so_far selects ∷ []) (so_far ++ record (cte_input a u so_far c) { rows = rows } ∷ []) cs) (union_same so_far c p.0)
        ∙ ctes_same (so_far ++ cte_input b u so_far c ∷ []) cs p.1

    pub bound_same : (d : Defn) → is_defn_bound own parents d ≡ true → defn_rows d a u ≡ defn_rows d b u
    bound_same (Seed columns rows) h = refl
    bound_same (Sql q) h =
        let p = and_parts (list_all (are_selects_bound own parents) q.ctes) (are_selects_bound own parents q.selects) h in
        ap (λ ctes. union_rows a u ctes q.selects) (ctes_same [] q.ctes p.0) ∙ union_same (cte_inputs b u q.ctes) q.selects p.1
