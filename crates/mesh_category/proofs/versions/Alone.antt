-- Whether a model's fingerprint stands for it alone, by how often it stands in the book and in the project.
use Rattle.std.proofs.Common.{◌≡◌, ℕ, Bool, true, false, not, ◌&&◌, ◌||◌, inl, inr, List, [], ◌∷◌, map, Some, None, refl, sym, ◌∙◌, ap, subst}
use Rattle.std.specs.List.{Contains}
use Rattle.std.specs.Ordering.{is_eq}
use Rattle.std.specs.declared.cmp.Ordering.TheVariants.{Less, Equal}
use Rattle.std.proofs.lemmas.Cmp.{tied_itself}
use Rattle.mesh_list.specs.Keyed.{ascends, below_first}
use Rattle.mesh_list.proofs.Ascends.{and_left, and_right}
use Rattle.mesh_base_values.specs.Names.{name_cmp}
use Rattle.mesh_base_values.specs.declared.values.Name.{Name}
use Rattle.mesh_base_values.proofs.Equals.{name_is as same_names, one_name}
use Rattle.mesh_base.specs.Keys.{ref_cmp, refs_total, snapshot_ref}
use Rattle.mesh_base.specs.declared.snapshots.Node.{Node}
use Rattle.mesh_base.specs.declared.snapshots.Ref.{Ref}
use Rattle.mesh_base.specs.declared.snapshots.Snapshot.{Snapshot}
use Rattle.mesh_base.specs.rules.Proper.{are_fit, has_node, have_distinct_names, is_proper, node_cmp, node_itself}
use Rattle.mesh_house_book.specs.declared.book.Book.{Book}
use Rattle.mesh_house_book.specs.WellFormed.{is_well_formed_book, snapshot_at}
use Rattle.mesh_law_query.proofs.Has.{Has, Has_from, Has_to}
use Rattle.mesh_spec_changes.proofs.listed.Books.{fits}
use Rattle.mesh_spec_changes.proofs.listed.Lists.{below_each}
use Rattle.mesh_spec_changes.specs.due.Versions.{node_ref}
use Rattle.mesh_category.specs.versions.Clashes.{AreOne, ClashesWithBook, ClashesWithProject, IsOf, SuitsBook, SuitsProject}
use Rattle.mesh_category.specs.versions.Index.{again, node_print, snapshot_print}
use Rattle.mesh_category.proofs.versions.Books.{is_there, its_own, snapshots_ascend}
use Rattle.mesh_category.proofs.versions.Prints.{Two, none_has_it, one_alone, two_have_it}

-- a model and the snapshots of a book
module _ (b : Book) (well : is_well_formed_book b ≡ true) (nodes : List Node) (n : Node) where
  abbrev all : List Snapshot
  all = b.snapshots

  abbrev f : List ℕ
  f = n.fingerprint

  up : ascends ref_cmp snapshot_ref all ≡ true
  up = snapshots_ascend b well

  -- a snapshot with the model's definition has its name
  its_name : (s : Snapshot) → Has s all → IsOf nodes n s → s.name ≡ n.own.name
  its_name s h is = sym (fits b s well (its_own all up s h)).name ∙ ap (λ o. o.name) is.0

  its_key : (s : Snapshot) → s.name ≡ n.own.name → s.fingerprint ≡ f → snapshot_ref s ≡ node_ref n
  its_key s name print = λ i. record { name = name i; fingerprint = print i }

  -- and is the one that is known
  pub is_known : (s : Snapshot) → Has s all → s.fingerprint ≡ f → IsOf nodes n s → snapshot_at all (node_ref n) ≡ Some s
  is_known s h print is = subst (λ (r : Ref). snapshot_at all r ≡ Some s) (its_key s (its_name s h is) print) (its_own all up s h)

  pub suits_none : again (map snapshot_print all) f ≡ None → SuitsBook all nodes n
  suits_none e s known print = absurd (none_has_it snapshot_print f all e s (is_there all (snapshot_ref s) s known) print)

  pub suits_alone : again (map snapshot_print all) f ≡ Some false → (s : Snapshot) → Has s all → s.fingerprint ≡ f → IsOf nodes n s → SuitsBook all nodes n
  suits_alone e s h its is t known print =
      let same : s ≡ t = one_alone snapshot_print f all e s t h (is_there all (snapshot_ref t) t known) its print in
      subst (IsOf nodes n) same is

  pub clashes_with : (s : Snapshot) → Has s all → s.fingerprint ≡ f → ¬ IsOf nodes n s → ClashesWithBook all nodes n
  clashes_with s h print isnt = (s, its_own all up s h, print, isnt)

  abbrev Below : Snapshot → Snapshot → Type 0
  Below s t = ref_cmp (snapshot_ref s) (snapshot_ref t) ≡ Less

  abbrev Up : List Snapshot → Type 0
  Up ss = ascends ref_cmp snapshot_ref ss ≡ true

  rest : (s : Snapshot) (ss : List Snapshot) → Up (s ∷ ss) → Up ss
  rest s ss u = and_right (below_first ref_cmp snapshot_ref (snapshot_ref s) ss) (ascends ref_cmp snapshot_ref ss) u

  below : (s : Snapshot) (ss : List Snapshot) → Up (s ∷ ss) → (t : Snapshot) → Has t ss → Below s t
  below s ss u t h = below_each ref_cmp refs_total snapshot_ref (snapshot_ref s) ss (and_left (below_first ref_cmp snapshot_ref (snapshot_ref s) ss) _ u) (rest s ss u) t h

  pub clashes_two : again (map snapshot_print all) f ≡ Some true → ClashesWithBook all nodes n
  clashes_two e = go (two_have_it snapshot_print f Below Up rest below all up e)
    where
      go : Two snapshot_print f Below all → ClashesWithBook all nodes n
      go two = decide (is_eq (name_cmp two.one.name n.own.name)) refl
        where
          second : two.one.name ≡ n.own.name → IsOf nodes n two.other → ⊥
          second named is =
              let refs : snapshot_ref two.one ≡ snapshot_ref two.other = its_key two.one named two.its ∙ sym (its_key two.other (its_name two.other two.has_other is) two.same) in
              let clash : Less ≡ Equal = sym two.differ ∙ ap (λ (r : Ref). ref_cmp r (snapshot_ref two.other)) refs ∙ tied_itself refs_total (snapshot_ref two.other) in
              absurd (cc)

          decide : (c : Bool) → is_eq (name_cmp two.one.name n.own.name) ≡ c → ClashesWithBook all nodes n
          decide true t = (two.other, its_own all up two.other two.has_other, two.same, second (same_names _ _ t))
          decide false t = (two.one, its_own all up two.one two.has_one, two.its, λ is. let clash : true ≡ false = sym (one_name _ _ (its_name two.one two.has_one is)) ∙ t in absurd (cc))

  -- where no snapshot is known and each of the fingerprint is of the model, there is none of it
  pub none_of_print : SuitsBook all nodes n → snapshot_at all (node_ref n) ≡ None → (s : Snapshot) → Has s all → s.fingerprint ≡ f → ⊥
  none_of_print suits missing s h print =
      let known : snapshot_at all (node_ref n) ≡ Some s = is_known s h print (suits s (its_own all up s h) print) in
      let clash : None ≡ Some s = sym missing ∙ known in absurd (cc)

-- a model and the others of its project
module _ (nodes : List Node) (proper : is_proper nodes ≡ true) (n : Node) (there : Contains nodes n) where
  abbrev g : List ℕ
  g = n.fingerprint

  abbrev Differ : Node → Node → Type 0
  Differ a c = a.own.name ≡ c.own.name → ⊥

  abbrev Apart : List Node → Type 0
  Apart ns = have_distinct_names ns ≡ true

  apart : Apart nodes
  apart =
      let ordered = and_right (ascends node_cmp node_itself nodes) _ (and_right _ (ascends node_cmp node_itself nodes && (have_distinct_names nodes && are_fit nodes nodes)) proper) in
      and_left (have_distinct_names nodes) (are_fit nodes nodes) ordered

  others : (a : Node) (ns : List Node) → Apart (a ∷ ns) → Apart ns
  others a ns u = and_right (not (has_node ns a.own.name)) (have_distinct_names ns) u

  named : (ns : List Node) (name : Name) (c : Node) → Has c ns → c.own.name ≡ name → has_node ns name ≡ true
  named [] name c h e = absurd h
  named (m ∷ ns) name c (inl same) e = ap (λ t. t || has_node ns name) (one_name m.own.name name (ap (λ (x : Node). x.own.name) same ∙ e))
  named (m ∷ ns) name c (inr h) e = ap (λ t. is_eq (name_cmp m.own.name name) || t) (named ns name c h e) ∙ or_true (is_eq (name_cmp m.own.name name))
    where
      or_true : (t : Bool) → (t || true) ≡ true
      or_true true = refl
      or_true false = refl

  differ : (a : Node) (ns : List Node) → Apart (a ∷ ns) → (c : Node) → Has c ns → Differ a c
  differ a ns u c h e =
      let none : not (has_node ns a.own.name) ≡ true = and_left (not (has_node ns a.own.name)) (have_distinct_names ns) u in
      let clash : false ≡ true = sym (ap not (named ns a.own.name c h (sym e))) ∙ none in
      absurd (cc)

  pub alone_none : again (map node_print nodes) g ≡ None → SuitsProject nodes n
  alone_none e m h print = absurd (none_has_it node_print g nodes e m (Has_from nodes m h) print)

  pub alone_one : again (map node_print nodes) g ≡ Some false → SuitsProject nodes n
  alone_one e m h print =
      let same : n ≡ m = one_alone node_print g nodes e n m (Has_from nodes n there) (Has_from nodes m h) refl print in
      subst (AreOne nodes n) same (refl, refl)

  pub alone_two : again (map node_print nodes) g ≡ Some true → ClashesWithProject nodes n
  alone_two e = go (two_have_it node_print g Differ Apart others differ nodes apart e)
    where
      go : Two node_print g Differ nodes → ClashesWithProject nodes n
      go two = decide (is_eq (name_cmp two.one.own.name n.own.name)) refl
        where
          decide : (c : Bool) → is_eq (name_cmp two.one.own.name n.own.name) ≡ c → ClashesWithProject nodes n
          decide true t = (two.other, Has_to nodes two.other two.has_other, two.same, λ is. two.differ (same_names _ _ t ∙ sym (ap (λ o. o.name) is.0)))
          decide false t = (two.one, Has_to nodes two.one two.has_one, two.its, λ is. let clash : true ≡ false = sym (one_name _ _ (ap (λ o. o.name) is.0)) ∙ t in absurd (cc))

  -- so whether it stands there more than once tells
  pub project_tells : (t : Bool) → again (map node_print nodes) g ≡ Some t → (not t ≡ true → SuitsProject nodes n) × (not t ≡ false → ClashesWithProject nodes n)
  project_tells true e = (λ h. let clash : false ≡ true = h in absurd (cc), λ h. alone_two e)
  project_tells false e = (λ h. alone_one e, λ h. let clash : true ≡ false = h in absurd (cc))
