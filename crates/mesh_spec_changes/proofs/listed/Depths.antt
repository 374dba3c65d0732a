-- A snapshot's closure is one however deep one looks, from its rank on: it has its parents' closures as parents.
use Rattle.std.proofs.Common.{◌≡◌, ℕ, zero, suc, ◌<◌, ◌≤◌, true, inl, inr, List, [], ◌∷◌, map, Some, None, refl, sym, ◌∙◌, ap, arith}
use Rattle.std.specs.Option.{option_map}
use Rattle.std.specs.declared.option.Option.{Option}
use Rattle.mesh_base.specs.declared.snapshots.Ref.{Ref}
use Rattle.mesh_base.specs.declared.snapshots.Snapshot.{Snapshot}
use Rattle.mesh_house_book.specs.declared.book.Book.{Book}
use Rattle.mesh_house_book.specs.WellFormed.{snapshot_at, is_well_formed_book}
use Rattle.mesh_spec_model.specs.Closures.{Closure, Closures, Model, Alone, each_of, with_parent}
use Rattle.mesh_law_query.proofs.Has.{Has}
use Rattle.mesh_spec_changes.specs.listed.Closing.{closed, closing, closure_at, parents_by, IsSnapshot}
use Rattle.mesh_spec_changes.proofs.listed.Books.{IsParent, fits, is_its_own}

-- two functions that agree on the parents
parents_agree : (all : List Snapshot) (f g : Snapshot → Closure) (refs : List Ref) → ((r : Ref) (p : Snapshot) → Has r refs → snapshot_at all r ≡ Some p → f p ≡ g p) → parents_by f all refs ≡ parents_by g all refs
parents_agree all f g [] h = refl
parents_agree all f g (r ∷ rs) h = go (snapshot_at all r) refl (parents_agree all f g rs (λ q p k. h q p (inr k)))
  where
    go : (o : Option Snapshot) → snapshot_at all r ≡ o → parents_by f all rs ≡ parents_by g all rs → with_parent (option_map f o) (parents_by f all rs) ≡ with_parent (option_map g o) (parents_by g all rs)
    go None e more = more
    go (Some p) e more = λ i. with_parent (Some (h r p (inl refl) e i)) (more i)

-- where each parent is there, so is its closure
each_there : (all : List Snapshot) (f : Snapshot → Closure) (rank : ℕ) (refs : List Ref) → ((r : Ref) → Has r refs → IsParent all rank r) → map Some (each_of (parents_by f all refs)) ≡ map (λ r. option_map f (snapshot_at all r)) refs
each_there all f rank [] h = refl
each_there all f rank (r ∷ rs) h =
    let p = h r (inl refl) in
    ap (λ o. map Some (each_of (with_parent (option_map f o) (parents_by f all rs)))) p.known
    ∙ (λ i. option_map f (sym p.known i) ∷ each_there all f rank rs (λ q k. h q (inr k)) i)

module _ (b : Book) (well : is_well_formed_book b ≡ true) where
  abbrev all : List Snapshot
  all = b.snapshots

  no_parents : (f : Snapshot → Closure) (s : Snapshot) → IsSnapshot all s → s.rank ≡ 0 → parents_by f all s.parents ≡ Alone
  no_parents f s known none = go s.parents ((fits b s well known).parents)
    where
      go : (refs : List Ref) → ((r : Ref) → Has r refs → IsParent all s.rank r) → parents_by f all refs ≡ Alone
      go [] h = refl
      go (r ∷ rs) h = let low = (h r (inl refl)).lower in absurd (omega (arith, low, none))

  below : (f g : Snapshot → Closure) (s : Snapshot) → IsSnapshot all s → ((p : Snapshot) → IsSnapshot all p → p.rank < s.rank → f p ≡ g p) → parents_by f all s.parents ≡ parents_by g all s.parents
  below f g s known same = parents_agree all f g s.parents each
    where
      each : (r : Ref) (p : Snapshot) → Has r s.parents → snapshot_at all r ≡ Some p → f p ≡ g p
      each r p h e =
          let q = (fits b s well known).parents r h in
          let is : q.snapshot ≡ p = let both : Some q.snapshot ≡ Some p = sym q.known ∙ e in cc in
          let rank_is : q.snapshot.rank ≡ p.rank = ap (λ (u : Snapshot). u.rank) is in
          same p (is_its_own all r p e) (omega (arith, rank_is, q.lower))

  pub one_closure : (d e : ℕ) (s : Snapshot) → IsSnapshot all s → s.rank ≤ d → s.rank ≤ e → closed all d s ≡ closed all e s
  one_closure zero zero s known l m = refl
  one_closure zero (suc e) s known l m = ap (Model s.own) (sym (no_parents (closed all e) s known (omega arith)))
  one_closure (suc d) zero s known l m = ap (Model s.own) (no_parents (closed all d) s known (omega arith))
  one_closure (suc d) (suc e) s known l m = ap (Model s.own) (below (closed all d) (closed all e) s known (λ p its less. one_closure d e p its (omega (arith, less, l)) (omega (arith, less, m))))

  -- a snapshot's closure has those of its parents
  pub closing_is : (s : Snapshot) → IsSnapshot all s → closing all s ≡ Model s.own (parents_by (closing all) all s.parents)
  closing_is s known =
      one_closure s.rank (suc s.rank) s known (omega arith) (omega arith)
      ∙ ap (Model s.own) (below (closed all s.rank) (closing all) s known (λ p its less. one_closure s.rank p.rank p its (omega (arith, less)) (omega arith)))

  -- of which none is missing
  pub closure_has : (r : Ref) (s : Snapshot) → snapshot_at all r ≡ Some s → (parents : Closures) × (closure_at all r ≡ Some (Model s.own parents)) × (map Some (each_of parents) ≡ map (closure_at all) s.parents)
  closure_has r s e =
      let known = is_its_own all r s e in (
        parents_by (closing all) all s.parents,
        ap (option_map (closing all)) e ∙ ap Some (closing_is s known),
        each_there all (closing all) s.rank s.parents (fits b s well known).parents,
      )
