-- A core has the same marks.
use Rattle.std.proofs.Common.{◌≡◌, ℕ, Bool, true, false, cond, List, ◌∷◌, ◌++◌, map, refl, ap, sym, ◌∙◌}
use Rattle.std.specs.List.{filter}
use Rattle.std.proofs.lemmas.List.{map-append}
use Rattle.std.proofs.lemmas.List.Elements.{filter-append}
use Rattle.mesh_base.specs.declared.definitions.Own.{Own}
use Rattle.mesh_spec_model.specs.Closures.{Closure, Closures, Model, Alone, With, own_of, standing, ancestors}
use Rattle.mesh_spec_model.specs.Horizons.{Clock}
use Rattle.mesh_law_query.specs.Reads.{reads}
use Rattle.mesh_spec_changes.specs.reuse.Cores.{pruned_own, pruned, pruned_for, core}
use Rattle.mesh_spec_changes.specs.due.Marks.{Mark, is_computed, mark_of, by_name, marks}
use Rattle.mesh_law_reuse.proofs.Horizons.{horizon_core, horizon_pruned}

abbrev is_marked : Closure → Bool
is_marked c = is_computed (own_of c).kind

module _ (clock : Clock) where
  abbrev computed : List Closure → List Mark
  computed cs = map (mark_of clock) (filter is_marked cs)

  computed_append : (xs ys : List Closure) → computed (xs ++ ys) ≡ computed xs ++ computed ys
  computed_append xs ys = ap (map (mark_of clock)) (filter-append is_marked xs ys) ∙ map-append (mark_of clock) (filter is_marked xs) (filter is_marked ys)

  computed_more : (v : Bool) (a b : Closure) (xs ys : List Closure) → mark_of clock a ≡ mark_of clock b → computed xs ≡ computed ys
      → map (mark_of clock) (cond v (a ∷ filter is_marked xs) (filter is_marked xs)) ≡ map (mark_of clock) (cond v (b ∷ filter is_marked ys) (filter is_marked ys))
  computed_more true a b xs ys e rest = λ i. e i ∷ rest i
  computed_more false a b xs ys e rest = rest

  mark_pruned : (wanted : List (List ℕ)) (own : Own) (parents : Closures) → mark_of clock (pruned wanted (Model own parents)) ≡ mark_of clock (Model own parents)
  mark_pruned wanted own parents = λ i. record { name = own.name; at = horizon_pruned clock wanted (Model own parents) i }

  mutual
    computed_pruned : (wanted : List (List ℕ)) (c : Closure) → computed (standing (pruned wanted c)) ≡ computed (standing c)
    computed_pruned wanted (Model own parents) =
        computed_more (is_computed own.kind) (pruned wanted (Model own parents)) (Model own parents) (ancestors (pruned_for (pruned_own wanted own) parents)) (ancestors parents)
        (mark_pruned wanted own parents) (computed_for (pruned_own wanted own) parents)

    computed_for : (own : Own) (cs : Closures) → computed (ancestors (pruned_for own cs)) ≡ computed (ancestors cs)
    computed_for own Alone = refl
    computed_for own (With c cs) =
        computed_append (standing (pruned (reads own (own_of c).name) c)) (ancestors (pruned_for own cs))
        ∙ (λ i. computed_pruned (reads own (own_of c).name) c i ++ computed_for own cs i) ∙ sym (computed_append (standing c) (ancestors cs))

pub marks_core : (clock : Clock) (c : Closure) → marks clock c ≡ marks clock (core c)
marks_core clock (Model own parents) =
    λ i. map (λ (m : Mark). m.at) (by_name (record { name = own.name; at = horizon_core clock (Model own parents) i } ∷ sym (computed_for clock own parents) i))
