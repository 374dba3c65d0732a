-- Models that are done are up to date with all that they stand on, where that is among them.
use Rattle.std.proofs.Common.{◌≡◌, ◌⊎◌, inl, inr, List, [], ◌∷◌, ◌++◌, map, Some, sym, ap, ◌∙◌, subst}
use Rattle.std.specs.List.{AllByRecursion, Contains}
use Rattle.mesh_base.specs.declared.snapshots.Ref.{Ref}
use Rattle.mesh_base.specs.declared.snapshots.Snapshot.{Snapshot}
use Rattle.mesh_house_book.specs.WellFormed.{snapshot_at}
use Rattle.mesh_house_book.specs.declared.book.Book.{Book}
use Rattle.mesh_spec_model.specs.Horizons.{Clock}
use Rattle.mesh_law_query.proofs.Has.{Has, Has_cases, Has_from, Has_map_from, Has_to}
use Rattle.mesh_spec_changes.specs.due.Parts.{Parts}
use Rattle.mesh_spec_changes.specs.due.Plans.{Planned}
use Rattle.mesh_spec_changes.specs.Changes.{parents_in, planned_ref}
use Rattle.mesh_spec_changes.proofs.listed.Books.{is_its_own}
use Rattle.mesh_spec_promise.specs.Current.{AllCurrent, AreDone, IsDone, IsReadable, current}
use Rattle.mesh_law_changes.specs.along.Ready.{AreRanked, IsPlaced}

same_snapshot : (s t : Snapshot) → Some s ≡ Some t → s ≡ t
same_snapshot s t e = cc

module _ (clock : Clock) (all : List Planned) (x : Parts) (b : Book) where
  one_readable : (p : Planned) → IsPlaced all b.snapshots p → IsDone clock x b p → ((q : Planned) → Has q (parents_in all p) → IsReadable clock x b q) → IsReadable clock x b p
  one_readable p placed done parents = record { done = done; all = current done.snapshot (is_its_own b.snapshots (planned_ref p) done.snapshot done.known) done.current below }
    where
      same : placed.snapshot ≡ done.snapshot
      same = same_snapshot placed.snapshot done.snapshot (sym placed.known ∙ done.known)

      refs : done.snapshot.parents ≡ map planned_ref (parents_in all p)
      refs = ap (λ (s : Snapshot). s.parents) (sym same) ∙ placed.parents

      below : (r : Ref) → Contains done.snapshot.parents r → (u : Snapshot) → snapshot_at b.snapshots r ≡ Some u → AllCurrent clock x b u
      below r h u at =
          let (q, i, e) = Has_map_from planned_ref (parents_in all p) r (subst (λ (l : List Ref). Has r l) refs (Has_from done.snapshot.parents r h)) in
          let its = parents q i in
          subst (AllCurrent clock x b) (same_snapshot its.done.snapshot u (sym its.done.known ∙ ap (snapshot_at b.snapshots) e ∙ at)) its.all

  and_this : (before : List Planned) (p : Planned) → ((q : Planned) → Has q before → IsReadable clock x b q) → IsReadable clock x b p → (q : Planned) → Has q (before ++ p ∷ []) → IsReadable clock x b q
  and_this before p so_far this q h = go (Has_cases q before (p ∷ []) h)
    where
      go : Has q before ⊎ Has q (p ∷ []) → IsReadable clock x b q
      go (inl i) = so_far q i
      go (inr (inl e)) = subst (IsReadable clock x b) e this
      go (inr (inr i)) = absurd i

  -- each model stands behind its parents
  pub all_readable : (before ps : List Planned) → ((q : Planned) → Has q before → IsReadable clock x b q) → AreRanked all before ps → AllByRecursion (IsPlaced all b.snapshots) ps → AreDone clock x b ps
      → AllByRecursion (IsReadable clock x b) ps
  all_readable before [] so_far ranked placed done = tt
  all_readable before (p ∷ ps) so_far ranked placed done =
      let this = one_readable p placed.0 done.0 (λ q i. so_far q (Has_from before q (ranked.0 q (Has_to (parents_in all p) q i)))) in
      (this, all_readable (before ++ p ∷ []) ps (and_this before p so_far this) ranked.1 placed.1 done.1)
