-- What fills a model is there, where the models that stand before it are made with all of their parents: nothing
-- dangles.
use Rattle.std.proofs.Common.{◌≡◌, true, List, [], ◌∷◌, map, Option, Some, refl, sym, ◌∙◌, ap, subst, inl, inr}
use Rattle.std.specs.List.{flat_map, list_all}
use Rattle.std.specs.Option.{option_and_then, option_map}
use Rattle.mesh_base_values.specs.declared.kinds.Kind.{Kind}
use Rattle.mesh_base_values.specs.declared.kinds.Kind.TheVariants.{Full, View, Seed, Incremental}
use Rattle.mesh_base_values.specs.declared.values.Cell.{Cell}
use Rattle.mesh_base.specs.declared.forgets.Forget.{Forget}
use Rattle.mesh_base.specs.declared.jobs.Input.{Input}
use Rattle.mesh_base.specs.declared.snapshots.Ref.{Ref}
use Rattle.mesh_base.specs.declared.snapshots.Snapshot.{Snapshot}
use Rattle.mesh_house_book.specs.WellFormed.{has_parents, is_listed, parents_at, snapshot_at}
use Rattle.mesh_spec_model.specs.Horizons.{Clock}
use Rattle.mesh_spec_model.specs.Scratch.{table_of}
use Rattle.mesh_spec_model.specs.Sources.{inputs}
use Rattle.mesh_law_query.proofs.Has.{Has, Has_map, Has_map_from, Has_to}
use Rattle.mesh_house.specs.World.{version_of}
use Rattle.mesh_house.specs.declared.world.Change.{Change}
use Rattle.mesh_house.specs.declared.world.World.{World}
use Rattle.mesh_spec_changes.specs.shown.Shown.{each_there, object_rows}
use Rattle.mesh_spec_changes.proofs.listed.Lists.{passes}
use Rattle.mesh_spec_changes.specs.due.Parts.{Parts}
use Rattle.mesh_spec_changes.specs.due.Plans.{Planned}
use Rattle.mesh_spec_changes.specs.Changes.{fill, fills, parent_table, parents_in, planned_ref, tables_for}
use Rattle.mesh_spec_promise.specs.Sound.{Sound, IsObjectMade}
use Rattle.mesh_law_changes.specs.along.Ready.{IsPlaced}
use Rattle.mesh_law_changes.proofs.Pending.{contained_listed}
use Rattle.mesh_law_promise.proofs.shown.Standing.{AreStanding, listed_shows}
use Rattle.mesh_law_promise.proofs.Promoting.{IsModelMade}

module _ (all : List Planned) (z : Parts) (u : World) (sound : Sound z u) (before : List Planned) (closed : (q : Planned) → Has q before → (m : Planned) → Has m (parents_in all q) → Has m before)
    (placed : (q : Planned) → Has q before → IsPlaced all u.book.snapshots q) (made : (q : Planned) → Has q before → IsModelMade u.book q) where
  abbrev refs : List Ref
  refs = map planned_ref before

  abbrev snapshots : List Snapshot
  snapshots = u.book.snapshots

  listed_so : (m : Planned) → Has m before → is_listed refs (planned_ref m) ≡ true
  listed_so m h = contained_listed refs (planned_ref m) (Has_to refs (planned_ref m) (Has_map planned_ref before m (planned_ref m) h refl))

  its_parents : (q : Planned) → Has q before → has_parents snapshots refs (planned_ref q) ≡ true
  its_parents q h =
      let its = placed q h in
      subst (λ (o : Option Snapshot). list_all (is_listed refs) (parents_at o) ≡ true) (sym its.known)
      (subst (λ (l : List Ref). list_all (is_listed refs) l ≡ true) (sym its.parents)
      (passes (is_listed refs) (map planned_ref (parents_in all q))
      (λ t k. let (m, j, f) = Has_map_from planned_ref (parents_in all q) t k in subst (λ (r : Ref). is_listed refs r ≡ true) f (listed_so m (closed q h m j)))))

  standing : AreStanding z u sound refs
  standing = record {
    parents = passes (has_parents snapshots refs) refs (λ t k. let (q, h, f) = Has_map_from planned_ref before t k in subst (λ (r : Ref). has_parents snapshots refs r ≡ true) f (its_parents q h));
    made = λ r k s at. made_of r s at (Has_map_from planned_ref before r k);
  }
    where
      made_of : (r : Ref) (s : Snapshot) → snapshot_at snapshots r ≡ Some s → (q : Planned) × Has q before × (planned_ref q ≡ r) → IsObjectMade u.book s
      made_of r s at (q, h, f) =
          let its = placed q h in
          let both : Some its.snapshot ≡ Some s = sym its.known ∙ ap (snapshot_at snapshots) f ∙ at in
          let same : its.snapshot ≡ s = cc in
          let (v, known, is) = made q h in
          (v, ap (λ (t : Snapshot). version_of u.book t.object) (sym same) ∙ ap (version_of u.book) its.object ∙ known, is)

  -- what each of them shows
  pub shows : (q : Planned) → Has q before → (rows : List (List Cell)) × (object_rows u q.object ≡ Some rows)
  shows q h =
      let its = placed q h in
      let (rows, is) = listed_shows z u sound refs standing (planned_ref q) its.snapshot (Has_map planned_ref before q (planned_ref q) h refl) its.known in
      (rows, ap (object_rows u) (sym its.object) ∙ is)

  tables_there : (qs : List Planned) → ((q : Planned) → Has q qs → Has q before) → (ts : List Input) × (each_there (map (parent_table u) qs) ≡ Some ts)
  tables_there [] h = ([], refl)
  tables_there (q ∷ qs) h =
      let (ts, rest) = tables_there qs (λ m k. h m (inr k)) in
      let (rows, is) = shows q (h q (inl refl)) in
      let one : parent_table u q ≡ Some (table_of q.node.own rows) = ap (option_map (table_of q.node.own)) is in
      (table_of q.node.own rows ∷ ts, λ i. option_and_then (λ x. option_map (λ xs. x ∷ xs) (rest i)) (one i))

  module _ (clock : Clock) (p : Planned) (stand : (m : Planned) → Has m (parents_in all p) → Has m before) where
    there_for : (kind : Kind) → (ts : List Input) × (tables_for u all p kind ≡ Some ts)
    there_for Seed = ([], refl)
    there_for View = ([], refl)
    there_for Full = let (ts, is) = tables_there (parents_in all p) stand in (inputs u.sources p.node.own ts, ap (option_map (inputs u.sources p.node.own)) is)
    there_for (Incremental time lookback) =
        let (ts, is) = tables_there (parents_in all p) stand in (inputs u.sources p.node.own ts, ap (option_map (inputs u.sources p.node.own)) is)

    -- what fills it
    pub fills_there : (qs : List Forget) → (list : List Change) × (fills clock u all p qs ≡ Some list)
    fills_there [] = ([], refl)
    fills_there (q ∷ qs) =
        let (ts, is) = there_for p.node.own.kind in
        (flat_map (fill clock p p.node.own.kind ts) (q ∷ qs), ap (option_map (λ tables. flat_map (fill clock p p.node.own.kind tables) (q ∷ qs))) is)
