-- Putting the snapshots of a plan keeps tables for twins.
use Rattle.std.proofs.Common.{◌≡◌, ℕ, ℤ, suc, true, ◌⊎◌, inl, inr, List, map, length, refl, ap, sym, ◌∙◌, arith}
use Rattle.std.specs.List.{Contains, slice_get}
use Rattle.std.specs.declared.option.Option.{Option}
use Rattle.std.specs.declared.option.Option.TheVariants.{Some}
use Rattle.mesh_base.specs.Keys.{snapshot_ref}
use Rattle.mesh_base.specs.declared.forgets.Restate.{Restate}
use Rattle.mesh_base.specs.declared.snapshots.Node.{Node}
use Rattle.mesh_base.specs.declared.snapshots.Snapshot.{Snapshot}
use Rattle.mesh_base.specs.rules.Proper.{is_proper}
use Rattle.mesh_house_book.specs.declared.book.Book.{Book}
use Rattle.mesh_house_book.specs.WellFormed.{is_well_formed_book, snapshot_at}
use Rattle.mesh_spec_model.specs.Horizons.{Clock}
use Rattle.mesh_law_query.proofs.Has.{Has_from}
use Rattle.mesh_spec_changes.specs.listed.Closing.{IsSnapshot, closing}
use Rattle.mesh_spec_changes.proofs.listed.Closings.{closings_stay}
use Rattle.mesh_spec_changes.specs.reuse.Cores.{core, IsTwin}
use Rattle.mesh_spec_changes.specs.due.Plans.{Planned}
use Rattle.mesh_spec_changes.specs.Changes.{Plan, parents_in, planned_ref, snapshot_of}
use Rattle.mesh_spec_changes.specs.Planning.{HasNoClash, IsPlan}
use Rattle.mesh_law_reuse.specs.Shared.{HasPut, IsOfPlan, SharesWithTwins}
use Rattle.mesh_law_reuse.proofs.Given.{given_twins}
use Rattle.mesh_law_reuse.proofs.Known.{each_at, known_below, place_there}
use Rattle.mesh_law_reuse.proofs.Single.{single}

module _ (clock : Clock) (before after : Book) (nodes : List Node) (restate : Option Restate) (plan : Plan) (t : ℤ)
    (well : is_well_formed_book before ≡ true) (proper : is_proper nodes ≡ true) (is : IsPlan clock before nodes restate plan) (shared : SharesWithTwins before)
    (well_after : is_well_formed_book after ≡ true) (put : HasPut t plan.models before after) where
  abbrev models : List Planned
  models = plan.models

  no_clash : (i : ℕ) (p : Planned) → slice_get models i ≡ Some p → HasNoClash before models p
  no_clash i p e = each_at (HasNoClash before models) models is.clashes i p e

  -- also in the later book a model's fingerprint stands for it alone
  stored : (i : ℕ) (p : Planned) → slice_get models i ≡ Some p → (s : Snapshot) → IsSnapshot after.snapshots s → s.fingerprint ≡ p.node.fingerprint → (s.own ≡ p.node.own) × (s.parents ≡ map planned_ref (parents_in models p))
  stored i p e s known same = go (put.each s known)
    where
      go : IsSnapshot before.snapshots s ⊎ IsOfPlan t models s → (s.own ≡ p.node.own) × (s.parents ≡ map planned_ref (parents_in models p))
      go (inl old) = (no_clash i p e).stored s old same
      go (inr (q, h, is_q)) =
          let (j, f) = place_there models q (Has_from models q h) in
          let (own, refs) = each_at (λ (q : Planned). q.node.fingerprint ≡ p.node.fingerprint → (q.node.own ≡ p.node.own) × (map planned_ref (parents_in models q) ≡ map planned_ref (parents_in models p))) models (no_clash i p e).given j q f
          (sym (ap (λ (u : Snapshot). u.fingerprint) is_q) ∙ same) in
          (ap (λ (u : Snapshot). u.own) is_q ∙ own, ap (λ (u : Snapshot). u.parents) is_q ∙ refs)

  old_closing : (s : Snapshot) → IsSnapshot before.snapshots s → closing after.snapshots s ≡ closing before.snapshots s
  old_closing s old = closings_stay before well after.snapshots put.kept s s old refl refl refl

  new_closing : (s : Snapshot) → IsSnapshot after.snapshots s → (p : Planned) → Contains models p → s ≡ snapshot_of t models p → closing after.snapshots s ≡ p.closure
  new_closing s known p h is_p =
      let (i, e) = place_there models p (Has_from models p h) in
      let there : snapshot_at after.snapshots (planned_ref p) ≡ Some s = ap (λ u. snapshot_at after.snapshots (snapshot_ref u)) (sym is_p) ∙ known in
      (known_below after well_after nodes proper models is.models is.closed stored (suc i) i (omega arith) p e s there).0

  abbrev Goal : Snapshot → Snapshot → Type 0
  Goal s s' = (s.name ≡ s'.name) × IsTwin (closing after.snapshots s) (closing after.snapshots s')

  -- one that was there, and one of a model
  mixed : (s s' : Snapshot) → IsSnapshot before.snapshots s → IsSnapshot after.snapshots s' → (p : Planned) → Contains models p → s' ≡ snapshot_of t models p → s.object ≡ s'.object → Goal s s'
  mixed s s' old known' p h is_p share =
      let (names, twins) = given_twins clock before nodes restate plan well proper is shared p h s old (share ∙ ap (λ (u : Snapshot). u.object) is_p) in
      (names ∙ sym (ap (λ (u : Snapshot). u.name) is_p), ap core (old_closing s old) ∙ twins ∙ sym (ap core (new_closing s' known' p h is_p)))

  swapped : (s s' : Snapshot) → Goal s s' → Goal s' s
  swapped s s' g = (sym g.0, sym g.1)

  both : (s s' : Snapshot) → IsSnapshot after.snapshots s → IsSnapshot after.snapshots s' → s.object ≡ s'.object → IsSnapshot before.snapshots s ⊎ IsOfPlan t models s → IsSnapshot before.snapshots s' ⊎ IsOfPlan t models s' → Goal s s'
  both s s' known known' share (inl old) (inl old') =
      let (names, twins) = shared s s' old old' share in
      (names, ap core (old_closing s old) ∙ twins ∙ sym (ap core (old_closing s' old')))
  both s s' known known' share (inl old) (inr (p, h, is_p)) = mixed s s' old known' p h is_p share
  both s s' known known' share (inr (p, h, is_p)) (inl old') = swapped s' s (mixed s' s old' known p h is_p (sym share))
  both s s' known known' share (inr (p, h, is_p)) (inr (q, k, is_q)) =
      let same : p ≡ q = single clock before nodes restate plan well proper is shared p q h k (sym (ap (λ (u : Snapshot). u.object) is_p) ∙ share ∙ ap (λ (u : Snapshot). u.object) is_q) in
      let one : s ≡ s' = is_p ∙ ap (snapshot_of t models) same ∙ sym is_q in
      (ap (λ (u : Snapshot). u.name) one, ap (λ u. core (closing after.snapshots u)) one)

  pub shares_after : SharesWithTwins after
  shares_after s s' known known' share = both s s' known known' share (put.each s known) (put.each s' known')
