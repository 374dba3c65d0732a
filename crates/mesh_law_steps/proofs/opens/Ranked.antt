-- Models that stand as the nodes of a proper project stand each behind its parents, and have distinct names.
use Rattle.std.proofs.Common.{◌≡◌, ℕ, not, nat_le, true, false, inl, inr, List, [], ◌∷◌, ◌++◌, map, length, Some, None, refl, sym, ◌∙◌, ap, append_assoc}
use Rattle.std.specs.List.{Contains, slice_get}
use Rattle.std.specs.Option.{option_map, option_to_list}
use Rattle.std.specs.Ordering.{is_eq}
use Rattle.std.specs.declared.option.Option.{Option}
use Rattle.std.proofs.lemmas.List.{map-append}
use Rattle.mesh_list.specs.Keyed.{ascends}
use Rattle.mesh_list.proofs.Ascends.{and_left, and_right}
use Rattle.mesh_base_values.specs.Names.{name_cmp}
use Rattle.mesh_base_values.specs.declared.values.Name.{Name}
use Rattle.mesh_base.specs.declared.snapshots.Node.{Node}
use Rattle.mesh_base.specs.rules.Proper.{are_fit, has_node, have_distinct_names, is_proper, node_cmp, node_itself}
use Rattle.mesh_law_query.proofs.Finding.{get_map}
use Rattle.mesh_law_query.proofs.Has.{Has, Has_flat_from, Has_from, Has_map, Has_some_from, Has_to}
use Rattle.mesh_law_query.proofs.Projects.{before_it}
use Rattle.mesh_spec_changes.proofs.listed.Lists.{get_left}
use Rattle.mesh_spec_changes.specs.due.Plans.{Planned}
use Rattle.mesh_spec_changes.specs.Changes.{parents_in}
use Rattle.mesh_spec_promise.proofs.Seconds.{any_of}
use Rattle.mesh_law_changes.proofs.Recorded.{same_object}
use Rattle.mesh_law_changes.specs.along.Ready.{AreApart, AreRanked}
use Rattle.mesh_law_steps.proofs.opens.Lists.{all_of, placed_in}

abbrev node : Planned → Node
node p = p.node

-- models of distinct names are apart where two that share an object have one name
names_apart : (ps : List Planned) → have_distinct_names (map node ps) ≡ true → ((p q : Planned) → Has p ps → Has q ps → p.object ≡ q.object → p.node.own.name ≡ q.node.own.name) → AreApart ps
names_apart [] distinct named = tt
names_apart (p ∷ ps) distinct named = (
  all_of (λ (q : Planned). p.object ≡ q.object → ⊥) ps other,
  names_apart ps (and_right (not (has_node (map node ps) p.node.own.name)) (have_distinct_names (map node ps)) distinct) (λ r s k l. named r s (inr k) (inr l)),
)
  where
    alone : not (has_node (map node ps) p.node.own.name) ≡ true
    alone = and_left (not (has_node (map node ps) p.node.own.name)) (have_distinct_names (map node ps)) distinct

    other : (q : Planned) → Has q ps → p.object ≡ q.object → ⊥
    other q k same =
        let name : p.node.own.name ≡ q.node.own.name = named p q (inl refl) (inr k) same in
        let its : is_eq (name_cmp q.node.own.name p.node.own.name) ≡ true = ap (λ (n : Name). is_eq (name_cmp q.node.own.name n)) name ∙ same_object q.node.own.name in
        let there : has_node (map node ps) p.node.own.name ≡ true =
        any_of (λ (n : Node). is_eq (name_cmp n.own.name p.node.own.name)) (map node ps) q.node (Has_to (map node ps) q.node (Has_map node ps q q.node k refl)) its in
        let clash : false ≡ true = sym (ap not there) ∙ alone in
        cc

module _ (nodes : List Node) (proper : is_proper nodes ≡ true) (models : List Planned) (are : map (λ (p : Planned). p.node) models ≡ nodes) where
  pub models_apart : ((p q : Planned) → Has p models → Has q models → p.object ≡ q.object → p.node.own.name ≡ q.node.own.name) → AreApart models
  models_apart named =
      let ordered = and_right (nat_le (length nodes) 4096) _ proper in
      let rest = and_right (ascends node_cmp node_itself nodes) _ ordered in
      let distinct : have_distinct_names nodes ≡ true = and_left (have_distinct_names nodes) (are_fit nodes nodes) rest in
      names_apart models (ap have_distinct_names are ∙ distinct) named

  ranked_from : (before after : List Planned) → before ++ after ≡ models → AreRanked models before after
  ranked_from before [] whole = tt
  ranked_from before (p ∷ ps) whole = (earlier, ranked_from (before ++ p ∷ []) ps (append_assoc before (p ∷ []) ps ∙ whole))
    where
      nodes_whole : map node before ++ p.node ∷ map node ps ≡ nodes
      nodes_whole = sym (map-append node before (p ∷ ps)) ∙ ap (map node) whole ∙ are

      earlier : (q : Planned) → Contains (parents_in models p) q → Contains before q
      earlier q k =
          let (i, at, some) = Has_flat_from (λ i. option_to_list (slice_get models i)) p.node.parents q (Has_from (parents_in models p) q k) in
          let (m, known, lower) = before_it nodes proper (map node before) (map node ps) p.node nodes_whole i at in
          go i (Has_some_from (slice_get models i) q some) m (slice_get before i) refl (sym (get_map node before i) ∙ known)
        where
          go : (i : ℕ) → slice_get models i ≡ Some q → (m : Node) (o : Option Planned) → slice_get before i ≡ o → option_map node o ≡ Some m → Contains before q
          go i there m None e f = absurd (let clash : None ≡ Some m = f in cc)
          go i there m (Some r) e f =
              let both : Some r ≡ Some q = sym (get_left before (p ∷ ps) i r e) ∙ ap (λ (l : List Planned). slice_get l i) whole ∙ there in
              placed_in before i q (e ∙ both)

  pub models_ranked : AreRanked models [] models
  models_ranked = ranked_from [] models refl
