-- A model of a proper project and all that it stands on have distinct names.
use Rattle.std.proofs.Common.{◌≡◌, ℕ, true, nat_eq, inl, inr, List, [], ◌∷◌, ◌++◌, refl, ap, sym, ◌∙◌, subst, eqb-true}
use Rattle.std.specs.List.{All, Contains, slice_get}
use Rattle.std.specs.Option.{option_map}
use Rattle.std.specs.declared.option.Option.{Option}
use Rattle.std.specs.declared.option.Option.TheVariants.{None, Some}
use Rattle.mesh_base.specs.declared.definitions.Own.{Own}
use Rattle.mesh_base.specs.declared.snapshots.Node.{Node}
use Rattle.mesh_base.specs.rules.Proper.{is_proper}
use Rattle.mesh_spec_model.proofs.Listed.{one_each, with_their_parents}
use Rattle.mesh_spec_model.specs.Closures.{Closure, Closures, Model, Alone, With, ancestors, closures, each_of, own_of, parents_of, standing}
use Rattle.mesh_law_query.proofs.Finding.{get_map}
use Rattle.mesh_law_query.proofs.Has.{Has, Has_from}
use Rattle.mesh_law_query.proofs.Lists.{Each, each}
use Rattle.mesh_spec_changes.specs.due.Parts.{same_name}
use Rattle.mesh_plan_due.proofs.Rows.{distinct, itself, one_place}
use Rattle.mesh_law_reuse.proofs.Known.{place_there}
use Rattle.mesh_spec_promise.specs.Sound.{HasEachOnce}

-- all that stands among closures with their parents is one of them
module _ (all : List Closure) (closed : (c : Closure) → Contains all c → Each (Contains all) (each_of (parents_of c))) where
  joined : (xs ys : List Closure) → Each (Contains all) xs → Each (Contains all) ys → Each (Contains all) (xs ++ ys)
  joined [] ys h g = g
  joined (x ∷ xs) ys h g = (h.0, joined xs ys h.1 g)

  mutual
    standing_in : (c : Closure) → Contains all c → Each (Contains all) (standing c)
    standing_in (Model own ps) h = (h, ancestors_in ps (closed (Model own ps) h))

    ancestors_in : (cs : Closures) → Each (Contains all) (each_of cs) → Each (Contains all) (ancestors cs)
    ancestors_in Alone h = tt
    ancestors_in (With c cs) h = joined (standing c) (ancestors cs) (standing_in c h.0) (ancestors_in cs h.1)

-- what holds of each element holds of one of them
pub one_of : {X : Type 0} (P : X → Type 0) (xs : List X) (x : X) → Each P xs → Has x xs → P x
one_of P [] x e h = absurd h
one_of P (y ∷ xs) x e (inl same) = subst P same e.0
one_of P (y ∷ xs) x e (inr h) = one_of P xs x e.1 h

module _ (nodes : List Node) (proper : is_proper nodes ≡ true) where
  abbrev all : List Closure
  all = closures nodes

  abbrev node_own : Node → Own
  node_own n = n.own

  each_parent : (c : Closure) → Contains all c → Each (Contains all) (each_of (parents_of c))
  each_parent c (j, l, e) = each (Contains all) (each_of (parents_of c)) (subst (λ x. All (Contains all) (each_of (parents_of x))) e (with_their_parents nodes j c l))

  owns : (i : ℕ) → option_map own_of (slice_get all i) ≡ option_map node_own (slice_get nodes i)
  owns i = sym (get_map own_of all i) ∙ ap (λ l. slice_get l i) (one_each nodes) ∙ get_map node_own nodes i

  node_of : (i : ℕ) (c : Closure) → slice_get all i ≡ Some c → (n : Node) × (slice_get nodes i ≡ Some n) × (own_of c ≡ n.own)
  node_of i c e = go (slice_get nodes i) refl (ap (option_map own_of) (sym e) ∙ owns i)
    where
      go : (o : Option Node) → slice_get nodes i ≡ o → Some (own_of c) ≡ option_map node_own o → (n : Node) × (slice_get nodes i ≡ Some n) × (own_of c ≡ n.own)
      go None f h = absurd (cc)
      go (Some n) f h = (n, f, (let same : own_of c ≡ n.own = cc in same))

  one_named : (a b : Closure) → Contains all a → Contains all b → (own_of a).name ≡ (own_of b).name → a ≡ b
  one_named a b h k same =
      let (i, e) = place_there all a (Has_from all a h) in
      let (j, f) = place_there all b (Has_from all b k) in
      let (m, at, own) = node_of i a e in
      let (n, there, its) = node_of j b f in
      let names : n.own.name ≡ m.own.name = ap (λ (o : Own). o.name) (sym its) ∙ sym same ∙ ap (λ (o : Own). o.name) own in
      let one : nat_eq i j ≡ true = sym (one_place nodes (distinct nodes proper) i j m n at there) ∙ ap (λ x. same_name x m.own.name) names ∙ itself m.own.name in
      let both : Some a ≡ Some b = sym e ∙ ap (slice_get all) (eqb-true i j one) ∙ f in
      cc

  pub each_once : (c : Closure) → Contains all c → HasEachOnce c
  each_once c h a b x y same =
      let among : Each (Contains all) (standing c) = standing_in all each_parent c h in
      one_named a b (one_of (Contains all) (standing c) a among (Has_from (standing c) a x)) (one_of (Contains all) (standing c) b among (Has_from (standing c) b y)) same
