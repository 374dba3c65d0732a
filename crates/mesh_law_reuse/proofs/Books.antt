-- The closures of the snapshots of a well-formed book are well formed.
use Rattle.std.proofs.Common.{◌≡◌, ℕ, zero, suc, ◌<◌, nat_eq, true, inl, inr, List, [], ◌∷◌, map, refl, ap, sym, ◌∙◌, subst, arith}
use Rattle.std.specs.Option.{option_map}
use Rattle.std.specs.declared.option.Option.{Option}
use Rattle.std.specs.declared.option.Option.TheVariants.{None, Some}
use Rattle.std.proofs.lemmas.Bool.{and_parts}
use Rattle.std.proofs.lemmas.List.Elements.{All-cons}
use Rattle.mesh_base.specs.Keys.{ref_name}
use Rattle.mesh_base.specs.Outputs.{columns_of}
use Rattle.mesh_base.specs.declared.definitions.Own.{Own}
use Rattle.mesh_base.specs.declared.snapshots.Ref.{Ref}
use Rattle.mesh_base.specs.declared.snapshots.Snapshot.{Snapshot}
use Rattle.mesh_base.specs.rules.Relations.{parent_relation, rank_over}
use Rattle.mesh_base.specs.declared.rules.relations.Relation.{Relation}
use Rattle.mesh_base.specs.rules.Proper.{is_well_formed}
use Rattle.mesh_house_book.specs.declared.book.Book.{Book}
use Rattle.mesh_house_book.specs.WellFormed.{columns_at, is_well_formed_book, parents_of, snapshot_at}
use Rattle.mesh_spec_model.specs.Closures.{Closures, Model, ancestors, each_of, own_of, with_parent}
use Rattle.mesh_law_query.specs.Found.{model_relation}
use Rattle.mesh_law_query.proofs.Has.{Has}
use Rattle.mesh_law_query.proofs.Lists.{Each}
use Rattle.mesh_spec_changes.specs.listed.Closing.{IsSnapshot, closed, closing, parents_by}
use Rattle.mesh_spec_changes.proofs.listed.Books.{IsParent, fits, is_its_own, its_ref}
use Rattle.mesh_spec_changes.proofs.listed.Depths.{closing_is}
use Rattle.mesh_law_reuse.specs.Well.{IsWell, AreWell}
use Rattle.mesh_law_reuse.proofs.Projects.{well_ancestors}

own_of_closed : (all : List Snapshot) (depth : ℕ) (s : Snapshot) → own_of (closed all depth s) ≡ s.own
own_of_closed all zero s = refl
own_of_closed all (suc depth) s = refl

module _ (b : Book) (well : is_well_formed_book b ≡ true) where
  abbrev all : List Snapshot
  all = b.snapshots

  one_relation : (rank : ℕ) (r : Ref) → IsParent all rank r → (o : Option Snapshot) → snapshot_at all r ≡ o → (cs : Closures) (rest : List Relation) → map model_relation (each_of cs) ≡ rest
      → map model_relation (each_of (with_parent (option_map (closing all) o) cs)) ≡ record { name = r.name; columns = columns_at o } ∷ rest
  one_relation rank r p None e cs rest h = let f : Some p.snapshot ≡ None = sym p.known ∙ e in absurd (cc)
  one_relation rank r p (Some s) e cs rest h =
      let own : own_of (closing all s) ≡ s.own = own_of_closed all s.rank s in
      let name : s.own.name ≡ r.name = (fits b s well (is_its_own all r s e)).name ∙ ap ref_name (its_ref all r s e) in
      λ i. record { name = (ap (λ (o : Own). o.name) own ∙ name) i; columns = columns_of (own i) } ∷ h i

  relations : (rank : ℕ) (refs : List Ref) → ((r : Ref) → Has r refs → IsParent all rank r) → map model_relation (each_of (parents_by (closing all) all refs)) ≡ map parent_relation (parents_of all refs)
  relations rank [] f = refl
  relations rank (r ∷ rs) f =
      one_relation rank r (f r (inl refl)) (snapshot_at all r) refl (parents_by (closing all) all rs) (map parent_relation (parents_of all rs)) (relations rank rs (λ q k. f q (inr k)))

  each_well : (rank : ℕ) → ((s : Snapshot) → s.rank < rank → IsSnapshot all s → AreWell (closing all s)) → (refs : List Ref) → ((r : Ref) → Has r refs → IsParent all rank r) → Each AreWell (each_of (parents_by (closing all) all refs))
  each_well rank rest [] f = tt
  each_well rank rest (r ∷ rs) f =
      let p = f r (inl refl) in
      subst (λ o. Each AreWell (each_of (with_parent (option_map (closing all) o) (parents_by (closing all) all rs)))) (sym p.known)
      (rest p.snapshot p.lower (is_its_own all r p.snapshot p.known), each_well rank rest rs (λ q k. f q (inr k)))

  one_well : (s : Snapshot) → IsSnapshot all s → ((t : Snapshot) → t.rank < s.rank → IsSnapshot all t → AreWell (closing all t)) → AreWell (closing all s)
  one_well s known rest =
      let fit = fits b s well known in
      let parents : Closures = parents_by (closing all) all s.parents in
      let rules = (and_parts (nat_eq s.rank (rank_over 0 (parents_of all s.parents))) (is_well_formed (parents_of all s.parents) s.own) fit.stands).1 in
      let first : IsWell (Model s.own parents) = (parents_of all s.parents, rules, relations s.rank s.parents fit.parents) in
      subst AreWell (sym (closing_is b well s known)) (All-cons IsWell (Model s.own parents) (ancestors parents) first (well_ancestors parents (each_well s.rank rest s.parents fit.parents)))

  below : (k : ℕ) (s : Snapshot) → s.rank < k → IsSnapshot all s → AreWell (closing all s)
  below zero s l known = absurd (omega (arith, l))
  below (suc k) s l known = one_well s known (λ t less it. below k t (omega (arith, l, less)) it)

  pub snapshots_well : (s : Snapshot) → IsSnapshot all s → AreWell (closing all s)
  snapshots_well s known = below (suc s.rank) s (omega arith) known
