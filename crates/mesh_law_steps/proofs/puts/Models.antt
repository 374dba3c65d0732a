-- The models of a proper project's plan: each stands behind its parents, with their closures in its own.
use Rattle.std.proofs.Common.{◌≡◌, ℕ, zero, suc, ◌+◌, ◌<◌, ◌≤◌, max, nat_le, true, inl, inr, List, [], ◌∷◌, ◌++◌, map, length, refl, ap, sym, ◌∙◌, subst, arith}
use Rattle.std.specs.List.{flat_map, slice_get}
use Rattle.std.specs.Option.{option_map, option_to_list}
use Rattle.std.specs.declared.option.Option.{Option}
use Rattle.std.specs.declared.option.Option.TheVariants.{None, Some}
use Rattle.std.proofs.lemmas.Bool.{and_parts, leb-true}
use Rattle.std.proofs.lemmas.Option.{get_or_from_slice_get, slice_get_within}
use Rattle.mesh_list.specs.Keyed.{ascends}
use Rattle.mesh_base.specs.declared.snapshots.Node.{Node}
use Rattle.mesh_base.specs.declared.rules.relations.Parent.{Parent}
use Rattle.mesh_base.specs.rules.Relations.{rank_over}
use Rattle.mesh_base.specs.rules.Proper.{are_fit, are_places, as_parent, have_distinct_names, is_fit, is_proper, node_cmp, node_itself, parent_at, parents_at, stands_on}
use Rattle.mesh_spec_model.specs.Closures.{Closure, Closures, Model, closures, each_of}
use Rattle.mesh_law_query.proofs.Finding.{get_map, one_passes}
use Rattle.mesh_law_query.proofs.Has.{Has, Has_flat_from, Has_from, Has_some_from}
use Rattle.mesh_law_query.proofs.Projects.{before_it, closures_there}
use Rattle.mesh_spec_changes.proofs.listed.Lists.{get_left}
use Rattle.mesh_spec_changes.specs.due.Plans.{Planned}
use Rattle.mesh_spec_changes.specs.Changes.{parents_in}
use Rattle.mesh_law_reuse.proofs.Projects.{at_place, its_rank}

-- a planned model as another one stands on it
abbrev pub planned_parent : Planned → Parent
planned_parent q = as_parent q.node

-- the least rank above some models
rank_low : (rank bound : ℕ) (qs : List Planned) → rank ≤ bound → ((q : Planned) → Has q qs → q.node.rank < bound) → rank_over rank (map planned_parent qs) ≤ bound
rank_low rank bound [] l f = l
rank_low rank bound (q ∷ qs) l f = let low = f q (inl refl) in rank_low (max rank (q.node.rank + 1)) bound qs (omega (arith, l, low)) (λ r h. f r (inr h))

mapped_there : {X Y : Type 0} (f : X → Y) (o : Option X) (y : Y) → option_map f o ≡ Some y → (x : X) × (o ≡ Some x)
mapped_there f None y e = absurd (cc)
mapped_there f (Some x) y e = (x, refl)

module _ (nodes : List Node) (proper : is_proper nodes ≡ true) (models : List Planned) (made : map (λ (p : Planned). p.node) models ≡ nodes) (closed : map (λ (p : Planned). p.closure) models ≡ closures nodes) where
  abbrev node : Planned → Node
  node p = p.node

  abbrev closure : Planned → Closure
  closure p = p.closure

  nodes_at : (i : ℕ) → slice_get nodes i ≡ option_map node (slice_get models i)
  nodes_at i = ap (λ l. slice_get l i) (sym made) ∙ get_map node models i

  closures_at : (i : ℕ) → slice_get (closures nodes) i ≡ option_map closure (slice_get models i)
  closures_at i = ap (λ l. slice_get l i) (sym closed) ∙ get_map closure models i

  pub node_at : (i : ℕ) (p : Planned) → slice_get models i ≡ Some p → slice_get nodes i ≡ Some p.node
  node_at i p e = nodes_at i ∙ ap (option_map node) e

  pub closure_at : (i : ℕ) (p : Planned) → slice_get models i ≡ Some p → slice_get (closures nodes) i ≡ Some p.closure
  closure_at i p e = closures_at i ∙ ap (option_map closure) e

  abbrev planned_at : List ℕ → List Planned
  planned_at js = flat_map (λ i. option_to_list (slice_get models i)) js

  pub parents_are : (js : List ℕ) → parents_at nodes js ≡ map planned_parent (planned_at js)
  parents_are [] = refl
  parents_are (j ∷ js) = (λ i. parent_at (nodes_at j i) ++ parents_are js i) ∙ go (slice_get models j)
    where
      go : (o : Option Planned) → parent_at (option_map node o) ++ map planned_parent (planned_at js) ≡ map planned_parent (option_to_list o ++ planned_at js)
      go None = refl
      go (Some q) = refl

  closures_are : (js : List ℕ) → flat_map (λ i. option_to_list (slice_get (closures nodes) i)) js ≡ map closure (planned_at js)
  closures_are [] = refl
  closures_are (j ∷ js) = (λ i. option_to_list (closures_at j i) ++ closures_are js i) ∙ go (slice_get models j)
    where
      go : (o : Option Planned) → option_to_list (option_map closure o) ++ map closure (planned_at js) ≡ map closure (option_to_list o ++ planned_at js)
      go None = refl
      go (Some q) = refl

  -- a model stands at a place in front of another one, with a lower rank
  pub record IsInFront (i : ℕ) (p q : Planned) : Type 0 where
    pub place : ℕ
    pub there : slice_get models place ≡ Some q
    pub before : place < i
    pub lower : q.node.rank < p.node.rank

  module _ (i : ℕ) (p : Planned) (e : slice_get models i ≡ Some p) where
    pub its_parents : (q : Planned) → Has q (parents_in models p) → IsInFront i p q
    its_parents q h =
        let (before, (after, (whole, size))) = at_place nodes i p.node (node_at i p e) in
        let (j, k, l) = Has_flat_from (λ i. option_to_list (slice_get models i)) p.node.parents q h in
        let at : slice_get models j ≡ Some q = Has_some_from (slice_get models j) q l in
        let (m, known, lower) = before_it nodes proper before after p.node whole j k in
        let both : Some q.node ≡ Some m = sym (node_at j q at) ∙ ap (λ l. slice_get l j) (sym whole) ∙ get_left before (p.node ∷ after) j m known in
        let same : q.node.rank ≡ m.rank = ap (λ (n : Node). n.rank) (let is : q.node ≡ m = cc in is) in
        let inside = slice_get_within before j m known in
        record { place = j; there = at; before = omega (arith, inside, size); lower = omega (arith, same, lower) }

    pub rank_is : p.node.rank ≡ rank_over 0 (map planned_parent (parents_in models p))
    rank_is =
        let (before, (after, (whole, size))) = at_place nodes i p.node (node_at i p e) in
        its_rank nodes proper before after p.node whole ∙ ap (rank_over 0) (parents_are p.node.parents)

    -- so it stands on them
    pub it_stands : stands_on (map planned_parent (parents_in models p)) p.node.rank p.node.own ≡ true
    it_stands =
        let a = and_parts (nat_le (length nodes) 4096) _ proper in
        let b = and_parts (ascends node_cmp node_itself nodes) _ a.1 in
        let fits : are_fit nodes nodes ≡ true = (and_parts (have_distinct_names nodes) (are_fit nodes nodes) b.1).1 in
        let at = node_at i p e in
        let rules : is_fit nodes p.node ≡ true = one_passes (is_fit nodes) nodes p.node fits (Has_from nodes p.node (i, slice_get_within nodes i p.node at, get_or_from_slice_get nodes i p.node p.node at)) in
        subst (λ ps. stands_on ps p.node.rank p.node.own ≡ true) (parents_are p.node.parents)
        (and_parts (are_places nodes p.node.parents) (stands_on (parents_at nodes p.node.parents) p.node.rank p.node.own) rules).1

    pub its_closure : (parents : Closures) × (Model p.node.own parents ≡ p.closure) × (each_of parents ≡ map closure (parents_in models p))
    its_closure =
        let (before, (after, (whole, size))) = at_place nodes i p.node (node_at i p e) in
        let (parents, here, are) = closures_there nodes proper before after p.node whole in
        let both : Some (Model p.node.own parents) ≡ Some p.closure = sym here ∙ ap (slice_get (closures nodes)) size ∙ closure_at i p e in
        (parents, (let same : Model p.node.own parents ≡ p.closure = cc in same), are ∙ closures_are p.node.parents)

  -- a model's rank is at most its place, and so at most 4,095
  rank_below : (k i : ℕ) → i < k → (p : Planned) → slice_get models i ≡ Some p → p.node.rank ≤ i
  rank_below zero i l p e = absurd (omega (arith, l))
  rank_below (suc k) i l p e =
      let is = rank_is i p e in
      let low = rank_low 0 i (parents_in models p) (omega arith) (λ q h.
      let f = its_parents i p e q h in
      let less = f.before in
      let rest = rank_below k f.place (omega (arith, l, less)) q f.there in
      omega (arith, rest, less)) in
      omega (arith, is, low)

  pub rank_small : (i : ℕ) (p : Planned) → slice_get models i ≡ Some p → p.node.rank ≤ 4095
  rank_small i p e =
      let low = rank_below (suc i) i (omega arith) p e in
      let inside = slice_get_within nodes i p.node (node_at i p e) in
      let few = leb-true (length nodes) 4096 (and_parts (nat_le (length nodes) 4096) _ proper).0 in
      omega (arith, low, inside, few)
