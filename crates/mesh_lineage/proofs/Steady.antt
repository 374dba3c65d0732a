-- A model is steady exactly where no name breaks the rule.
use Rattle.std.proofs.Common.{◌≡◌, ℕ, suc, Bool, true, false, not, cond, ◌&&◌, ◌||◌, List, [], ◌∷◌, ◌++◌, map, refl, sym, ap, ap₂, ◌∙◌}
use Rattle.std.specs.Prelude.{filter, ◌↔◌}
use Rattle.std.specs.List.{flat_map, list_all, list_any}
use Rattle.mesh_base_values.specs.Kinds.{is_incremental}
use Rattle.mesh_base_values.specs.declared.kinds.Kind.{Kind}
use Rattle.mesh_base_values.specs.declared.kinds.Kind.TheVariants.{Full, View, Seed, Incremental}
use Rattle.mesh_base_values.specs.declared.values.Name.{Name}
use Rattle.mesh_base.specs.declared.definitions.Decl.{Decl}
use Rattle.mesh_base.specs.declared.definitions.Defn.{Defn}
use Rattle.mesh_base.specs.declared.definitions.Defn.TheVariants as defn
use Rattle.mesh_base.specs.declared.definitions.Own.{Own}
use Rattle.mesh_base.specs.declared.queries.FromItem.{FromItem}
use Rattle.mesh_base.specs.declared.queries.Rel.{Rel}
use Rattle.mesh_base.specs.declared.queries.Rel.TheVariants.{Named, Cte}
use Rattle.mesh_base.specs.declared.queries.Select.{Select}
use Rattle.mesh_spec_model.specs.Closures.{Closure, Closures, Model, Alone, With, own_of}
use Rattle.mesh_spec_changes.specs.steady.Steady.{are_items_bound, are_selects_bound, has_timed_source, is_defn_bound, is_item_bound, is_steady, is_steady_as, is_timed_source, parents_reach_timed, reaches_timed}
use Rattle.mesh_lineage.specs.Unsteady.{breakers, breakers_as, decl_name, defn_breakers, item_breakers, items_breakers, may_read, parents_reached, select_breakers, selects_breakers, timed_names_of, timed_reached}

-- there is no name
abbrev none : List Name → Bool
none [] = true
none (name ∷ names) = false

none_append : (xs ys : List Name) → none (xs ++ ys) ≡ (none xs && none ys)
none_append [] ys = refl
none_append (x ∷ xs) ys = refl

none_of : {X : Type 0} (f : X → List Name) (p : X → Bool) → ((x : X) → p x ≡ none (f x)) → (xs : List X) → list_all p xs ≡ none (flat_map f xs)
none_of f p each [] = refl
none_of f p each (x ∷ xs) = ap₂ (λ a b. a && b) (each x) (none_of f p each xs) ∙ sym (none_append (f x) (flat_map f xs))

none_if : (b : Bool) (name : Name) → b ≡ none (cond b [] (name ∷ []))
none_if true name = refl
none_if false name = refl

module _ (own : Own) (parents : Closures) where
  item_none : (s : Select) (place : ℕ) (f : FromItem) (rel : Rel) → is_item_bound own parents s place f rel ≡ none (item_breakers (may_read own parents) s place f rel)
  item_none s place f (Cte at) = refl
  item_none s place f (Named name) = none_if (may_read own parents s place f name) name

  items_none : (s : Select) (place : ℕ) (fs : List FromItem) → are_items_bound own parents s place fs ≡ none (items_breakers (may_read own parents) s place fs)
  items_none s place [] = refl
  items_none s place (f ∷ fs) =
      ap₂ (λ a b. a && b) (item_none s place f f.rel) (items_none s (suc place) fs)
      ∙ sym (none_append (item_breakers (may_read own parents) s place f f.rel) (items_breakers (may_read own parents) s (suc place) fs))

  selects_none : (selects : List Select) → are_selects_bound own parents selects ≡ none (selects_breakers (may_read own parents) selects)
  selects_none selects = none_of (select_breakers (may_read own parents)) (λ (s : Select). are_items_bound own parents s 0 s.from) (λ s. items_none s 0 s.from) selects

  defn_none : (d : Defn) → is_defn_bound own parents d ≡ none (defn_breakers (may_read own parents) d)
  defn_none (defn.Seed columns rows) = refl
  defn_none (defn.Sql q) =
      ap₂ (λ a b. a && b) (none_of (selects_breakers (may_read own parents)) (are_selects_bound own parents) selects_none q.ctes) (selects_none q.selects)
      ∙ sym (none_append (flat_map (selects_breakers (may_read own parents)) q.ctes) (selects_breakers (may_read own parents) q.selects))

timed_none : (sources : List Decl) → not (list_any is_timed_source sources) ≡ none (timed_names_of sources)
timed_none [] = refl
timed_none (d ∷ ds) = by_test (is_timed_source d) (timed_none ds)
  where
    by_test : (b : Bool) → not (list_any is_timed_source ds) ≡ none (timed_names_of ds) → not (b || list_any is_timed_source ds) ≡ none (map decl_name (cond b (d ∷ filter is_timed_source ds) (filter is_timed_source ds)))
    by_test true more = refl
    by_test false more = more

not_or : (a b : Bool) → not (a || b) ≡ (not a && not b)
not_or true b = refl
not_or false b = refl

skipped : (b r : Bool) (names : List Name) → not r ≡ none names → not (not b && r) ≡ none (cond b [] names)
skipped true r names e = refl
skipped false r names e = e

mutual
  reached_none : (c : Closure) → not (reaches_timed c) ≡ none (timed_reached c)
  reached_none (Model own parents) =
      not_or (has_timed_source own) (parents_reach_timed parents) ∙ ap₂ (λ a b. a && b) (timed_none own.sources) (parents_none parents)
      ∙ sym (none_append (timed_names_of own.sources) (parents_reached parents))

  parents_none : (cs : Closures) → not (parents_reach_timed cs) ≡ none (parents_reached cs)
  parents_none Alone = refl
  parents_none (With c cs) =
      not_or (not (is_incremental (own_of c).kind) && reaches_timed c) (parents_reach_timed cs)
      ∙ ap₂ (λ a b. a && b) (skipped (is_incremental (own_of c).kind) (reaches_timed c) (timed_reached c) (reached_none c)) (parents_none cs)
      ∙ sym (none_append (cond (is_incremental (own_of c).kind) [] (timed_reached c)) (parents_reached cs))

steady_none : (own : Own) (parents : Closures) (k : Kind) → is_steady_as own parents k ≡ none (breakers_as own parents k)
steady_none own parents (Incremental time lookback) = defn_none own parents own.defn
steady_none own parents Full = reached_none (Model own parents)
steady_none own parents View = refl
steady_none own parents Seed = refl

no_name : (names : List Name) → none names ≡ true → names ≡ []
no_name [] e = refl
no_name (x ∷ xs) e = cc

pub steady_or_broken : (c : Closure) → (is_steady c ≡ true) ↔ (breakers c ≡ [])
steady_or_broken (Model own parents) =
    (λ steady. no_name (breakers_as own parents own.kind) (sym (steady_none own parents own.kind) ∙ steady), λ nothing. steady_none own parents own.kind ∙ ap none nothing)
