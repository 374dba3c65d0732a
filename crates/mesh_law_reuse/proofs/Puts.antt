-- What putting the snapshots of some models of a plan makes of a book.
use Rattle.std.proofs.Common.{◌≡◌, ℕ, ℤ, suc, Bool, true, false, cond, ◌⊎◌, inl, inr, List, [], ◌∷◌, map, refl, ap, sym, ◌∙◌, arith}
use Rattle.std.specs.List.{Contains, fold, slice_get}
use Rattle.std.specs.Ordering.{is_eq}
use Rattle.std.specs.Cmp.{IsTotalOrder}
use Rattle.std.specs.declared.cmp.Ordering.{Ordering}
use Rattle.std.specs.declared.option.Option.{Option}
use Rattle.std.specs.declared.option.Option.TheVariants.{None, Some}
use Rattle.std.proofs.lemmas.Cmp.{tied_itself}
use Rattle.std.proofs.lemmas.Map.Lookups.{CmpEqualImpliesEq}
use Rattle.mesh_list.specs.Keyed.{exchanged, found}
use Rattle.mesh_list.proofs.Found.{found-placed}
use Rattle.mesh_base_values.proofs.Equals.{equal_of}
use Rattle.mesh_base.specs.Keys.{ref_cmp, refs_exact, refs_total, snapshot_ref}
use Rattle.mesh_base.specs.declared.forgets.Restate.{Restate}
use Rattle.mesh_base.specs.declared.snapshots.Node.{Node}
use Rattle.mesh_base.specs.declared.snapshots.Ref.{Ref}
use Rattle.mesh_base.specs.declared.snapshots.Snapshot.{Snapshot}
use Rattle.mesh_base.specs.rules.Proper.{is_proper}
use Rattle.mesh_house_book.specs.Changes.{put, put_for, put_snapshot}
use Rattle.mesh_house_book.specs.declared.book.Book.{Book}
use Rattle.mesh_house_book.specs.WellFormed.{is_well_formed_book, snapshot_at}
use Rattle.mesh_spec_model.specs.Horizons.{Clock}
use Rattle.mesh_law_query.proofs.Has.{Has, Has_from, Has_to}
use Rattle.mesh_spec_changes.specs.listed.Closing.{IsAlike, IsSnapshot}
use Rattle.mesh_spec_changes.proofs.listed.Books.{is_its_own, its_ref}
use Rattle.mesh_spec_changes.specs.due.Plans.{Planned}
use Rattle.mesh_spec_changes.specs.Changes.{Plan, planned_ref, snapshot_of}
use Rattle.mesh_spec_changes.specs.Planning.{HasNoClash, IsPlan}
use Rattle.mesh_law_reuse.specs.Shared.{HasPut, IsOfPlan}
use Rattle.mesh_law_reuse.proofs.Known.{each_at, known_below, place_there}

-- what is found after an item is put
module _ {A K : Type 0} (R : K → K → Ordering) (total : IsTotalOrder R) (exact : CmpEqualImpliesEq R) (key : A → K) (y : A) (k : K) where
  later_first : (a b : Bool) (s t e : Option A) → (a ≡ true → b ≡ true → s ≡ t) → cond a s (cond b t e) ≡ cond b t (cond a s e)
  later_first true true s t e h = h refl refl
  later_first true false s t e h = refl
  later_first false b s t e h = refl

  instead : (a b : Bool) (s t e : Option A) → (b ≡ true → a ≡ true) → cond a s e ≡ cond a s (cond b t e)
  instead true b s t e h = refl
  instead false true s t e h = absurd (let f : false ≡ true = h refl in cc)
  instead false false s t e h = refl

  found_exchanged : (xs : List A) (old : A) → found R key (key y) xs ≡ Some old → found R key k (exchanged R key y xs) ≡ cond (is_eq (R (key y) k)) (Some y) (found R key k xs)
  found_exchanged [] old e = absurd (cc)
  found_exchanged (x ∷ xs) old e = go (is_eq (R (key x) (key y))) refl e (found_exchanged xs old)
    where
      go : (b : Bool) → is_eq (R (key x) (key y)) ≡ b → cond b (Some x) (found R key (key y) xs) ≡ Some old
          → (found R key (key y) xs ≡ Some old → found R key k (exchanged R key y xs) ≡ cond (is_eq (R (key y) k)) (Some y) (found R key k xs))
          → found R key k (cond b (y ∷ xs) (x ∷ exchanged R key y xs)) ≡ cond (is_eq (R (key y) k)) (Some y) (cond (is_eq (R (key x) k)) (Some x) (found R key k xs))
      go true same e rest =
          let keys : key x ≡ key y = exact (key x) (key y) (equal_of (R (key x) (key y)) same) in
          instead (is_eq (R (key y) k)) (is_eq (R (key x) k)) (Some y) (Some x) (found R key k xs) (λ h. ap (λ n. is_eq (R n k)) (sym keys) ∙ h)
      go false other e rest =
          ap (cond (is_eq (R (key x) k)) (Some x)) (rest e)
          ∙ later_first (is_eq (R (key x) k)) (is_eq (R (key y) k)) (Some x) (Some y) (found R key k xs) apart
        where
          apart : is_eq (R (key x) k) ≡ true → is_eq (R (key y) k) ≡ true → Some x ≡ Some y
          apart f g =
              let keys : key x ≡ key y = exact (key x) k (equal_of (R (key x) k) f) ∙ sym (exact (key y) k (equal_of (R (key y) k) g)) in
              let tied : true ≡ false = sym (ap is_eq (tied_itself total (key y))) ∙ ap (λ n. is_eq (R n (key y))) (sym keys) ∙ other in
              absurd (cc)

  found_put : (xs : List A) → found R key k (put R key y xs) ≡ cond (is_eq (R (key y) k)) (Some y) (found R key k xs)
  found_put xs = go (found R key (key y) xs) refl
    where
      go : (o : Option A) → found R key (key y) xs ≡ o → found R key k (put_for o R key y xs) ≡ cond (is_eq (R (key y) k)) (Some y) (found R key k xs)
      go None e = found-placed R exact key y k xs
      go (Some old) e = found_exchanged xs old e

at_ref : (b : Book) (s : Snapshot) (r : Ref) → snapshot_at (put_snapshot b s).snapshots r ≡ cond (is_eq (ref_cmp (snapshot_ref s) r)) (Some s) (snapshot_at b.snapshots r)
at_ref b s r = found_put ref_cmp refs_total refs_exact snapshot_ref s r b.snapshots

module _ (clock : Clock) (before : Book) (nodes : List Node) (restate : Option Restate) (plan : Plan) (t : ℤ)
    (well : is_well_formed_book before ≡ true) (proper : is_proper nodes ≡ true) (is : IsPlan clock before nodes restate plan) where
  abbrev models : List Planned
  models = plan.models

  no_clash : (i : ℕ) (p : Planned) → slice_get models i ≡ Some p → HasNoClash before models p
  no_clash i p e = each_at (HasNoClash before models) models is.clashes i p e

  one_put : (b : Book) → HasPut t models before b → (q : Planned) → Contains models q → HasPut t models before (put_snapshot b (snapshot_of t models q))
  one_put b put q h = record { kept = kept; each = each }
    where
      new : Snapshot
      new = snapshot_of t models q

      kept : (r : Ref) (p : Snapshot) → snapshot_at before.snapshots r ≡ Some p → IsAlike (put_snapshot b new).snapshots r p
      kept r p known = go (is_eq (ref_cmp (snapshot_ref new) r)) refl
        where
          go : (v : Bool) → is_eq (ref_cmp (snapshot_ref new) r) ≡ v → IsAlike (put_snapshot b new).snapshots r p
          go false e =
              let old = put.kept r p known in
              record { snapshot = old.snapshot; known = at_ref b new r ∙ ap (λ v. cond v (Some new) (snapshot_at b.snapshots r)) e ∙ old.known; own = old.own; parents = old.parents; rank = old.rank }
          go true e =
              let (i, f) = place_there models q (Has_from models q h) in
              let its : snapshot_ref new ≡ r = refs_exact (snapshot_ref new) r (equal_of (ref_cmp (snapshot_ref new) r) e) in
              let there : snapshot_at before.snapshots (planned_ref q) ≡ Some p = ap (snapshot_at before.snapshots) its ∙ known in
              let (own, refs) = (no_clash i q f).stored p (is_its_own before.snapshots r p known) (ap (λ (x : Ref). x.fingerprint) (its_ref before.snapshots r p known ∙ sym its)) in
              let same = known_below before well nodes proper models is.models is.closed (λ j p g. (no_clash j p g).stored) (suc i) i (omega arith) q f p there in
              record { snapshot = new; known = at_ref b new r ∙ ap (λ v. cond v (Some new) (snapshot_at b.snapshots r)) e; own = sym own; parents = sym refs; rank = sym same.1 }

      each : (s : Snapshot) → IsSnapshot (put_snapshot b new).snapshots s → IsSnapshot before.snapshots s ⊎ IsOfPlan t models s
      each s known = go (is_eq (ref_cmp (snapshot_ref new) (snapshot_ref s))) (sym (at_ref b new (snapshot_ref s)) ∙ known)
        where
          go : (v : Bool) → cond v (Some new) (snapshot_at b.snapshots (snapshot_ref s)) ≡ Some s → IsSnapshot before.snapshots s ⊎ IsOfPlan t models s
          go true e = inr (q, h, (let same : new ≡ s = cc in sym same))
          go false e = put.each s e

  each_put : (some : List Planned) → ((p : Planned) → Has p some → Contains models p) → (b : Book) → HasPut t models before b → HasPut t models before (fold put_snapshot b (map (snapshot_of t models) some))
  each_put [] f b put = put
  each_put (p ∷ some) f b put = each_put some (λ q h. f q (inr h)) (put_snapshot b (snapshot_of t models p)) (one_put b put p (f p (inl refl)))

  pub are_put : (some : List Planned) → ((p : Planned) → Contains some p → Contains models p) → HasPut t models before (fold put_snapshot before (map (snapshot_of t models) some))
  are_put some f =
      each_put some (λ p h. f p (Has_to some p h)) before
      (record { kept = λ r p known. record { snapshot = p; known = known; own = refl; parents = refl; rank = refl }; each = λ s known. inl known })
