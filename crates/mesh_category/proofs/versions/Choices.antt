-- The first free name, as it is looked for.
use Rattle.std.proofs.Common.{◌≡◌, ℕ, Bool, true, false, cond, not, ◌&&◌, ◌||◌, inl, inr, List, [], ◌∷◌, Some, None, refl, sym, ◌∙◌, ap, subst}
use Rattle.std.specs.List.{find}
use Rattle.std.specs.Option.{is_none, option_map, option_or}
use Rattle.std.specs.Ordering.{is_eq}
use Rattle.std.specs.declared.option.Option.{Option}
use Rattle.std.proofs.lemmas.Map.Lookups.{exact_bytes}
use Rattle.std.specs.Cmp.{Equal-is}
use Rattle.mesh_list.specs.Keyed.{found}
use Rattle.mesh_base_values.specs.Names.{name_cmp, text_cmp}
use Rattle.mesh_base_values.specs.Picked.{same_text}
use Rattle.mesh_base_values.specs.declared.values.Name.{Name}
use Rattle.mesh_base.specs.declared.plans.Category.{Category}
use Rattle.mesh_base.specs.declared.snapshots.Node.{Node}
use Rattle.mesh_base.specs.declared.snapshots.Ref.{Ref}
use Rattle.mesh_base.specs.declared.snapshots.Snapshot.{Snapshot}
use Rattle.mesh_house_book.specs.declared.book.Book.{Book}
use Rattle.mesh_house_book.specs.WellFormed.{is_well_formed_book, snapshot_at}
use Rattle.mesh_law_query.proofs.Has.{Has}
use Rattle.mesh_spec_changes.specs.due.Parts.{same_name}
use Rattle.mesh_spec_changes.specs.due.Versions.{fresh, is_free, kept_object, node_ref, stays, table_name, version}
use Rattle.mesh_category.specs.declared.versions.objects.Object.{Object}
use Rattle.mesh_category.specs.declared.versions.objects.Object.TheVariants.{Named, Taken}
use Rattle.mesh_category.specs.versions.Clashes.{SuitsBook, compared_in}
use Rattle.mesh_category.specs.versions.Index.{holder, snapshot_object, snapshot_print}
use Rattle.mesh_category.specs.versions.Objects.{IsObject, choice, fresh_by, or_fresh, or_next}
use Rattle.mesh_category.proofs.versions.Alone.{none_of_print}

-- what is found among four names, beside the choice that is made
abbrev IsPick : Option Name → Option (List ℕ) → Object → Type 0
IsPick first last (Named name) = first ≡ Some name
IsPick first last (Taken stored) = (first ≡ None) × (last ≡ Some stored)

picked_last : (n : Name) (h : Option (List ℕ)) → IsPick (cond (is_none h) (Some n) None) h (choice h n)
picked_last n None = refl
picked_last n (Some x) = (refl, refl)

picked : (n : Name) (h last : Option (List ℕ)) (first : Option Name) (o : Object) → IsPick first last o → IsPick (cond (is_none h) (Some n) first) last (or_next (choice h n) o)
picked n None last first o k = refl
picked n (Some x) last first o k = k

module _ (all : List Snapshot) (f : List ℕ) (away : (s : Snapshot) → Has s all → s.fingerprint ≡ f → ⊥) where
  other : (s : Snapshot) → (s.fingerprint ≡ f → ⊥) → same_text s.fingerprint f ≡ false
  other s isnt = go (same_text s.fingerprint f) refl
    where
      go : (t : Bool) → same_text s.fingerprint f ≡ t → same_text s.fingerprint f ≡ false
      go true e = absurd (isnt (exact_bytes s.fingerprint f ((Equal-is (text_cmp s.fingerprint f)).0 e)))
      go false e = e

  -- a name is free where no snapshot has it
  free_from : (ss : List Snapshot) → ((s : Snapshot) → Has s ss → s.fingerprint ≡ f → ⊥) → (name : Name) → is_free ss f name ≡ is_none (holder ss name)
  free_from [] none name = refl
  free_from (s ∷ ss) none name =
      ap (λ t. (t || not (same_name s.object name)) && is_free ss f name) (other s (none s (inl refl)))
      ∙ go (is_eq (name_cmp s.object name)) (free_from ss (λ t h. none t (inr h)) name)
    where
      go : (t : Bool) → is_free ss f name ≡ is_none (holder ss name)
          → (not t && is_free ss f name) ≡ is_none (option_map snapshot_print (cond t (Some s) (found name_cmp snapshot_object name ss)))
      go true more = refl
      go false more = more

  pub is_free_is : (name : Name) → is_free all f name ≡ is_none (holder all name)
  is_free_is name = free_from all away name

  -- the first snapshot that has it is of another fingerprint
  taken_from : (ss : List Snapshot) → ((s : Snapshot) → Has s ss → s.fingerprint ≡ f → ⊥) → (name : Name)
      → find (λ (s : Snapshot). not (same_text s.fingerprint f) && same_name s.object name) ss ≡ found name_cmp snapshot_object name ss
  taken_from [] none name = refl
  taken_from (s ∷ ss) none name =
      ap (λ t. cond (not t && same_name s.object name) (Some s) (find (λ (s : Snapshot). not (same_text s.fingerprint f) && same_name s.object name) ss)) (other s (none s (inl refl)))
      ∙ ap (cond (is_eq (name_cmp s.object name)) (Some s)) (taken_from ss (λ t h. none t (inr h)) name)

  pub taken_is : (name : Name) → option_map snapshot_print (find (λ (s : Snapshot). not (same_text s.fingerprint f) && same_name s.object name) all) ≡ holder all name
  taken_is name = ap (option_map snapshot_print) (taken_from all away name)

  fresh_is : (holds : Name → Option (List ℕ)) → ((name : Name) → holds name ≡ holder all name) → (m : Name)
      → IsPick (fresh all m f) (holder all (table_name m f 3)) (fresh_by holds m f)
  fresh_is holds is m =
      let n : ℕ → Name = table_name m f in
      let free : (k : ℕ) → is_free all f (n k) ≡ is_none (holds (n k)) = λ k. is_free_is (n k) ∙ ap is_none (sym (is (n k))) in
      let names : fresh all m f ≡ cond (is_none (holds (n 0))) (Some (n 0)) (cond (is_none (holds (n 1))) (Some (n 1)) (cond (is_none (holds (n 2))) (Some (n 2)) (cond (is_none (holds (n 3))) (Some (n 3)) None))) =
      λ i. cond (free 0 i) (Some (n 0)) (cond (free 1 i) (Some (n 1)) (cond (free 2 i) (Some (n 2)) (cond (free 3 i) (Some (n 3)) None))) in
      let last = holds (n 3) in
      subst (λ (o : Option Name). IsPick o (holder all (n 3)) (fresh_by holds m f)) (sym names)
      (subst (λ (o : Option (List ℕ)). IsPick (cond (is_none (holds (n 0))) (Some (n 0)) (cond (is_none (holds (n 1))) (Some (n 1)) (cond (is_none (holds (n 2))) (Some (n 2)) (cond (is_none (holds (n 3))) (Some (n 3)) None)))) o (fresh_by holds m f)) (is (n 3))
      (picked (n 0) (holds (n 0)) last _ _ (picked (n 1) (holds (n 1)) last _ _ (picked (n 2) (holds (n 2)) last _ _ (picked_last (n 3) (holds (n 3)))))))

-- a model that a book knows, and one that it doesn't know
module _ (b : Book) (well : is_well_formed_book b ≡ true) (nodes : List Node) (base : List Ref) (category : Category) (n : Node) (suits : SuitsBook b.snapshots nodes n) where
  abbrev kept : Option Name
  kept = kept_object (stays category n.own.kind) (compared_in b.snapshots base n.own.name)

  abbrev fresh_name : Option Name
  fresh_name = fresh b.snapshots n.own.name n.fingerprint

  by_known : (o : Option Snapshot) → snapshot_at b.snapshots (node_ref n) ≡ o
      → version b.snapshots (compared_in b.snapshots base n.own.name) category n ≡ option_or (option_map snapshot_object o) (option_or kept fresh_name)
  by_known o e = ap (λ (q : Option Snapshot). option_or (option_map snapshot_object q) (option_or kept fresh_name)) e

  pub known_is : (s : Snapshot) → snapshot_at b.snapshots (node_ref n) ≡ Some s → IsObject b.snapshots base category n (Named s.object)
  known_is s e = by_known (Some s) e

  module _ (missing : snapshot_at b.snapshots (node_ref n) ≡ None) where
    away : (s : Snapshot) → Has s b.snapshots → s.fingerprint ≡ n.fingerprint → ⊥
    away = none_of_print b well nodes n suits missing

    by_kept : (k : Option Name) → kept ≡ k → version b.snapshots (compared_in b.snapshots base n.own.name) category n ≡ option_or k fresh_name
    by_kept k e = by_known None missing ∙ ap (λ (q : Option Name). option_or q fresh_name) e

    pub unknown_is : (holds : Name → Option (List ℕ)) → ((name : Name) → holds name ≡ holder b.snapshots name) → (o : Object)
        → o ≡ or_fresh kept (fresh_by holds n.own.name n.fingerprint) → IsObject b.snapshots base category n o
    unknown_is holds is o e =
        subst (IsObject b.snapshots base category n) (sym e)
        (go kept refl (fresh_by holds n.own.name n.fingerprint) (fresh_is b.snapshots n.fingerprint away holds is n.own.name))
      where
        go : (k : Option Name) → kept ≡ k → (fresh_object : Object) → IsPick fresh_name (holder b.snapshots (table_name n.own.name n.fingerprint 3)) fresh_object → IsObject b.snapshots base category n (or_fresh k fresh_object)
        go None f (Named name) p = by_kept None f ∙ p
        go None f (Taken stored) p = record { none = by_kept None f ∙ p.0; by_ = taken_is b.snapshots n.fingerprint away (table_name n.own.name n.fingerprint 3) ∙ p.1 }
        go (Some name) f fresh_object p = by_kept (Some name) f
