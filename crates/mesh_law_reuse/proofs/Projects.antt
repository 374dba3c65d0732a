-- The closures of proper projects and of well-formed books are well formed.
use Rattle.std.proofs.Common.{◌≡◌, ℕ, zero, suc, ◌<◌, nat_eq, nat_le, true, inl, inr, List, [], ◌∷◌, ◌++◌, map, length, get_or, refl, ap, sym, ◌∙◌, subst, arith}
use Rattle.std.specs.List.{All, flat_map, slice_get}
use Rattle.std.specs.Option.{option_map, option_to_list}
use Rattle.std.specs.declared.option.Option.{Option}
use Rattle.std.specs.declared.option.Option.TheVariants.{None, Some}
use Rattle.std.proofs.lemmas.Bool.{and_parts, eqb-true}
use Rattle.std.proofs.lemmas.List.{map-append}
use Rattle.std.proofs.lemmas.List.Elements.{All-nil, All-cons, All-append}
use Rattle.std.proofs.lemmas.Option.{slice_get_within, slice_get-get_or as get_there}
use Rattle.mesh_list.specs.Keyed.{ascends}
use Rattle.mesh_base.specs.Outputs.{columns_of}
use Rattle.mesh_base.specs.declared.definitions.Own.{Own}
use Rattle.mesh_base.specs.declared.snapshots.Node.{Node}
use Rattle.mesh_base.specs.rules.Relations.{parent_relation, rank_over}
use Rattle.mesh_base.specs.rules.Proper.{are_fit, are_places, have_distinct_names, is_fit, is_proper, is_well_formed, node_cmp, node_itself, parent_at, stands_on}
use Rattle.mesh_base.specs.rules.Proper as proper
use Rattle.mesh_spec_model.specs.Closures.{Closure, Closures, Model, Alone, With, ancestors, closures, each_of, own_of, standing}
use Rattle.mesh_spec_model.proofs.Listed.{one_each}
use Rattle.mesh_law_query.specs.Found.{model_relation}
use Rattle.mesh_law_query.proofs.Finding.{get_map, one_passes}
use Rattle.mesh_law_query.proofs.Has.{Has, Has_right}
use Rattle.mesh_law_query.proofs.Lists.{Each}
use Rattle.mesh_law_query.proofs.Projects.{IsBefore, before_it, closures_there}
use Rattle.mesh_law_reuse.specs.Well.{IsWell, AreWell}

abbrev node_own : Node → Own
node_own n = n.own

-- the ancestors are well where the parents are
pub well_ancestors : (cs : Closures) → Each AreWell (each_of cs) → All IsWell (ancestors cs)
well_ancestors Alone h = All-nil IsWell
well_ancestors (With c cs) h = All-append IsWell (standing c) (ancestors cs) h.0 (well_ancestors cs h.1)

-- a list about a place of it
pub at_place : (nodes : List Node) (i : ℕ) (n : Node) → slice_get nodes i ≡ Some n → (before : List Node) × ((after : List Node) × ((before ++ n ∷ after ≡ nodes) × (length before ≡ i)))
at_place [] i n e = absurd (cc)
at_place (x ∷ nodes) zero n e = let same : x ≡ n = cc in ([], (nodes, (ap (λ z. z ∷ nodes) (sym same), refl)))
at_place (x ∷ nodes) (suc i) n e =
    let (before, (after, (all, size))) = at_place nodes i n e in
    (x ∷ before, (after, (ap (λ l. x ∷ l) all, ap suc size)))

model_at : (a : Option Closure) (b : Option Node) (c : Closure) → a ≡ Some c → option_map own_of a ≡ option_map node_own b → (n : Node) × (b ≡ Some n)
model_at a None c e h = let f : Some (own_of c) ≡ None = sym (ap (option_map own_of) e) ∙ h in absurd (cc)
model_at a (Some n) c e h = (n, refl)

relations_at : (a : Option Closure) (b : Option Node) → option_map own_of a ≡ option_map node_own b → map model_relation (option_to_list a) ≡ map parent_relation (parent_at b)
relations_at None None h = refl
relations_at None (Some n) h = absurd (cc)
relations_at (Some c) None h = absurd (cc)
relations_at (Some c) (Some n) h = let same : own_of c ≡ n.own = cc in λ i. record { name = (same i).name; columns = columns_of (same i) } ∷ []

module _ (nodes : List Node) (h : is_proper nodes ≡ true) where
  abbrev all : List Closure
  all = closures nodes

  owns : (i : ℕ) → option_map own_of (slice_get all i) ≡ option_map node_own (slice_get nodes i)
  owns i = sym (get_map own_of all i) ∙ ap (λ l. slice_get l i) (one_each nodes) ∙ get_map node_own nodes i

  relations : (places : List ℕ) → map model_relation (flat_map (λ i. option_to_list (slice_get all i)) places) ≡ map parent_relation (proper.parents_at nodes places)
  relations [] = refl
  relations (i ∷ is) =
      map-append model_relation (option_to_list (slice_get all i)) (flat_map (λ i. option_to_list (slice_get all i)) is)
      ∙ (λ j. relations_at (slice_get all i) (slice_get nodes i) (owns i) j ++ relations is j)
      ∙ sym (map-append parent_relation (parent_at (slice_get nodes i)) (proper.parents_at nodes is))

  fits : are_fit nodes nodes ≡ true
  fits =
      let a = and_parts (nat_le (length nodes) 4096) _ h in
      let b = and_parts (ascends node_cmp node_itself nodes) _ a.1 in
      (and_parts (have_distinct_names nodes) (are_fit nodes nodes) b.1).1

  module _ (before after : List Node) (n : Node) (whole : before ++ n ∷ after ≡ nodes) where
    its_stand : stands_on (proper.parents_at nodes n.parents) n.rank n.own ≡ true
    its_stand =
        let rules : is_fit nodes n ≡ true = one_passes (is_fit nodes) nodes n fits (subst (Has n) whole (Has_right n before (n ∷ after) (inl refl))) in
        (and_parts (are_places nodes n.parents) (stands_on (proper.parents_at nodes n.parents) n.rank n.own) rules).1

    its_parts : (nat_eq n.rank (rank_over 0 (proper.parents_at nodes n.parents)) ≡ true) × (is_well_formed (proper.parents_at nodes n.parents) n.own ≡ true)
    its_parts = and_parts (nat_eq n.rank (rank_over 0 (proper.parents_at nodes n.parents))) (is_well_formed (proper.parents_at nodes n.parents) n.own) its_stand

    its_rules : is_well_formed (proper.parents_at nodes n.parents) n.own ≡ true
    its_rules = its_parts.1

    pub its_rank : n.rank ≡ rank_over 0 (proper.parents_at nodes n.parents)
    its_rank = eqb-true n.rank (rank_over 0 (proper.parents_at nodes n.parents)) its_parts.0

    -- the closure at a place is well where those at places before it are
    here : ((j : ℕ) → j < length before → (c : Closure) → slice_get all j ≡ Some c → AreWell c) → (c : Closure) → slice_get all (length before) ≡ Some c → AreWell c
    here rest c e =
        let (parents, there, are) = closures_there nodes h before after n whole in
        let both : Some (Model n.own parents) ≡ Some c = sym there ∙ e in
        let same : Model n.own parents ≡ c = cc in
        let first : IsWell (Model n.own parents) = (proper.parents_at nodes n.parents, its_rules, ap (map model_relation) are ∙ relations n.parents) in
        let above : Each AreWell (each_of parents) = subst (Each AreWell) (sym are) (each_well n.parents (λ i k. k)) in
        subst AreWell same (All-cons IsWell (Model n.own parents) (ancestors parents) first (well_ancestors parents above))
      where
        each_well : (is : List ℕ) → ((i : ℕ) → Has i is → Has i n.parents) → Each AreWell (flat_map (λ i. option_to_list (slice_get all i)) is)
        each_well [] f = tt
        each_well (i ∷ is) f = go (slice_get all i) refl (before_it nodes h before after n whole i (f i (inl refl))) (each_well is (λ j k. f j (inr k)))
          where
            go : (o : Option Closure) → slice_get all i ≡ o → IsBefore before n i → Each AreWell (flat_map (λ i. option_to_list (slice_get all i)) is)
                → Each AreWell (option_to_list o ++ flat_map (λ i. option_to_list (slice_get all i)) is)
            go None e (m, known, lower) more = more
            go (Some c) e (m, known, lower) more = (rest i (slice_get_within before i m known) c e, more)

  below : (k i : ℕ) → i < k → (c : Closure) → slice_get all i ≡ Some c → AreWell c
  below zero i l c e = absurd (omega (arith, l))
  below (suc k) i l c e =
      let (n, there) = model_at (slice_get all i) (slice_get nodes i) c e (owns i) in
      let (before, (after, (whole, size))) = at_place nodes i n there in
      here before after n whole (λ j less. below k j (omega (arith, l, less, size))) c (ap (slice_get all) size ∙ e)

pub project_well_at : (nodes : List Node) → is_proper nodes ≡ true → (i : ℕ) (c : Closure) → slice_get (closures nodes) i ≡ Some c → AreWell c
project_well_at nodes h i c e = below nodes h (suc i) i (omega arith) c e

pub projects_well : (nodes : List Node) → is_proper nodes ≡ true → All AreWell (closures nodes)
projects_well nodes h k d l = below nodes h (suc k) k (omega arith) (get_or (closures nodes) k d) (get_there (closures nodes) k d l)
