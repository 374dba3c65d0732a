-- Models whose fingerprints stand for them alone are a plan without a clash.
use Rattle.std.proofs.Common.{◌≡◌, ℕ, inl, inr, List, [], ◌∷◌, ◌++◌, map, refl, sym, ◌∙◌, ap, subst}
use Rattle.std.specs.List.{All, AllByRecursion, flat_map, slice_get}
use Rattle.std.specs.Option.{option_map, option_to_list}
use Rattle.std.specs.declared.option.Option.{Option}
use Rattle.std.specs.declared.option.Option.TheVariants.{None, Some}
use Rattle.std.proofs.lemmas.List.{map-append}
use Rattle.std.proofs.lemmas.List.Elements.{All-head, All-tail}
use Rattle.mesh_base.specs.declared.snapshots.Node.{Node}
use Rattle.mesh_house_book.specs.declared.book.Book.{Book}
use Rattle.mesh_law_query.proofs.Finding.{get_map}
use Rattle.mesh_law_query.proofs.Has.{Has, Has_map, Has_to}
use Rattle.mesh_spec_changes.specs.due.Plans.{Planned}
use Rattle.mesh_spec_changes.specs.due.Versions.{node_ref}
use Rattle.mesh_spec_changes.specs.Changes.{parents_in, planned_ref}
use Rattle.mesh_spec_changes.specs.Planning.{HasNoClash}
use Rattle.mesh_category.specs.versions.Clashes.{IsAlone, parent_refs, refs_at}

node_of : Planned → Node
node_of p = p.node

pub by_recursion : {X : Type 0} (P : X → Type 0) (xs : List X) → ((x : X) → Has x xs → P x) → AllByRecursion P xs
by_recursion P [] f = tt
by_recursion P (x ∷ xs) f = (f x (inl refl), by_recursion P xs (λ y h. f y (inr h)))

pub all_at : {X : Type 0} (P : X → Type 0) (xs : List X) → All P xs → (x : X) → Has x xs → P x
all_at P [] f x h = absurd h
all_at P (y ∷ ys) f x (inl e) = subst P e (All-head P y ys f)
all_at P (y ∷ ys) f x (inr h) = all_at P ys (All-tail P y ys f) x h

module _ (models : List Planned) where
  abbrev theirs : List Node
  theirs = map (λ (p : Planned). p.node) models

  at_place : (i : ℕ) → map node_ref (option_to_list (slice_get theirs i)) ≡ map planned_ref (option_to_list (slice_get models i))
  at_place i = ap (λ (o : Option Node). map node_ref (option_to_list o)) (get_map (λ (p : Planned). p.node) models i) ∙ go (slice_get models i)
    where
      go : (o : Option Planned) → map node_ref (option_to_list (option_map (λ (p : Planned). p.node) o)) ≡ map planned_ref (option_to_list o)
      go None = refl
      go (Some p) = refl

  at_places : (places : List ℕ) → refs_at theirs places ≡ map planned_ref (flat_map (λ i. option_to_list (slice_get models i)) places)
  at_places [] = refl
  at_places (i ∷ is) =
      map-append node_ref (option_to_list (slice_get theirs i)) (flat_map (λ j. option_to_list (slice_get theirs j)) is)
      ∙ (λ k. at_place i k ++ at_places is k)
      ∙ sym (map-append planned_ref (option_to_list (slice_get models i)) (flat_map (λ j. option_to_list (slice_get models j)) is))

  same_refs : (p : Planned) → parent_refs theirs p.node ≡ map planned_ref (parents_in models p)
  same_refs p = at_places p.node.parents

  one_has_none : (b : Book) → All (IsAlone b.snapshots theirs) theirs → (p : Planned) → Has p models → HasNoClash b models p
  one_has_none b alone p h =
      let its : IsAlone b.snapshots theirs p.node = all_at (IsAlone b.snapshots theirs) theirs alone p.node (Has_map (λ (q : Planned). q.node) models p p.node h refl) in
      record {
        stored = λ s known print. let is = its.book s known print in (is.0, is.1 ∙ same_refs p);
        given = by_recursion _ models (λ q k print.
            let is = its.project q.node (Has_to theirs q.node (Has_map (λ (r : Planned). r.node) models q q.node k refl)) print in
            (is.0, sym (same_refs q) ∙ is.1 ∙ same_refs p));
      }

pub none_clashes : (b : Book) (models : List Planned) (nodes : List Node) → map (λ (p : Planned). p.node) models ≡ nodes → All (IsAlone b.snapshots nodes) nodes → AllByRecursion (HasNoClash b models) models
none_clashes b models nodes e alone =
    by_recursion (HasNoClash b models) models
    (one_has_none models b (subst (λ (ns : List Node). All (IsAlone b.snapshots ns) ns) (sym e) alone))
