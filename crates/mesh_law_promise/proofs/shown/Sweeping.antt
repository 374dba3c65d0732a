-- A sweep leaves what the views of each environment that stays show.
use Rattle.std.proofs.Common.{◌≡◌, ℕ, ℤ, zero, suc, true, false, List, ◌++◌, map, Some, None, refl, sym, ◌∙◌, ap, subst}
use Rattle.std.specs.Option.{option_and_then, option_map}
use Rattle.std.specs.declared.option.Option.{Option}
use Rattle.mesh_base_values.specs.declared.values.Cell.{Cell}
use Rattle.mesh_base_values.specs.declared.values.Name.{Name}
use Rattle.mesh_base_values.specs.declared.values.Pair.{Pair}
use Rattle.mesh_base.specs.declared.snapshots.Env.{Env}
use Rattle.mesh_base.specs.declared.snapshots.Ref.{Ref}
use Rattle.mesh_base.specs.declared.snapshots.Snapshot.{Snapshot}
use Rattle.mesh_base.specs.rules.Seen.{or_no_columns}
use Rattle.mesh_house_book.specs.WellFormed.{is_well_formed_book}
use Rattle.mesh_law_query.proofs.Has.{Has, Has_from}
use Rattle.mesh_spec_changes.specs.listed.Closing.{IsSnapshot}
use Rattle.mesh_spec_changes.proofs.listed.Books.{is_its_own}
use Rattle.mesh_house.specs.Step.{run}
use Rattle.mesh_house.specs.World.{body_of, columns_of, object_at, rows_of, view}
use Rattle.mesh_house.specs.declared.objects.Body.{Body}
use Rattle.mesh_house.specs.declared.objects.Body.TheVariants.{Rows, Stored}
use Rattle.mesh_house.specs.declared.objects.Object.{Object}
use Rattle.mesh_house.specs.declared.world.Change.{Change}
use Rattle.mesh_house.specs.declared.world.World.{World}
use Rattle.mesh_spec_changes.specs.shown.Shown.{body_rows, each_there, object_rows, rows_through, stored_rows, target_table, targets_of, view_rows}
use Rattle.mesh_spec_changes.specs.due.Parts.{Parts}
use Rattle.mesh_spec_changes.specs.Environments.{IsEnv, is_over, view_in}
use Rattle.mesh_spec_changes.specs.Kept.{gone_tables, is_kept, sweeps}
use Rattle.mesh_janitor.proofs.janitor.Reached.{kept_parent}
use Rattle.mesh_spec_promise.specs.Sound.{IsBodyOf, IsEntry, Sound}
use Rattle.mesh_spec_promise.proofs.Fits.{plain_ref}
use Rattle.mesh_spec_promise.proofs.ViewNames.{view_names}
use Rattle.mesh_law_changes.proofs.EnvLaws.{is_old}
use Rattle.mesh_law_changes.proofs.SnapshotGone.{same_map}
use Rattle.mesh_law_steps.proofs.sweep.Kept.{entry_kept, kept_object, there}
use Rattle.mesh_law_promise.proofs.shown.Leaving.{IsSpared, entry_among, entry_plain, exit_spared}
use Rattle.mesh_law_promise.proofs.shown.Targets.{body_reads}

-- Where the sources and the objects that stay are as they were, the objects of snapshots that stay show the rows that
-- they showed.
module _ (x : Parts) (w : World) (sound : Sound x w) (t : ℤ) (v : World) (sources : v.sources ≡ w.sources)
    (object_is : (n : Name) → (Has n (gone_tables w.book t) → ⊥) → object_at v n ≡ object_at w n) where
  abbrev all : List Snapshot
  all = w.book.snapshots

  well : is_well_formed_book w.book ≡ true
  well = sound.book.well_formed

  same_object : (s : Snapshot) → IsSnapshot all s → is_kept w.book t s ≡ true → object_at v s.object ≡ object_at w s.object
  same_object s known stays = object_is s.object (kept_object w.book well t s known stays)

  rows_spared : (depth : ℕ) (s : Snapshot) → IsSnapshot all s → is_kept w.book t s ≡ true → rows_through depth v s.object ≡ rows_through depth w s.object
  rows_spared zero s known stays = ap (λ (o : Option Object). rows_of (body_of o)) (same_object s known stays)
  rows_spared (suc d) s known stays =
      ap (λ (o : Option Object). option_and_then (body_rows (rows_through d v) v) (body_of o)) (same_object s known stays) ∙ at (object_at w s.object) refl (λ p k f. rows_spared d p k f)
    where
      More : Type 0
      More = (p : Snapshot) → IsSnapshot all p → is_kept w.book t p ≡ true → rows_through d v p.object ≡ rows_through d w p.object

      one_target : More → (b : Body) → IsBodyOf all s s.own.kind b → (q : Pair) → Has q (targets_of b) → target_table (rows_through d v) v q ≡ target_table (rows_through d w) w q
      one_target more b is q h =
          let parent = body_reads all s b is q h in
          let p : Snapshot = parent.snapshot in
          let known_p : IsSnapshot all p = is_its_own all parent.ref p parent.known in
          let stays_p : is_kept w.book t p ≡ true = kept_parent w.book well t s p parent.ref (there w.book well t s known) stays parent.parent parent.known in
          let objects : object_at v q.second ≡ object_at w q.second = subst (λ (n : Name). object_at v n ≡ object_at w n) parent.object (same_object p known_p stays_p) in
          let rows : rows_through d v q.second ≡ rows_through d w q.second = subst (λ (n : Name). rows_through d v n ≡ rows_through d w n) parent.object (more p known_p stays_p) in
          λ i. option_map (λ (rs : List (List Cell)). record { name = q.first; columns = or_no_columns (columns_of (objects i)); rows = rs }) (rows i)

      by_body : More → (b : Body) → IsBodyOf all s s.own.kind b → body_rows (rows_through d v) v b ≡ body_rows (rows_through d w) w b
      by_body more (Rows rows) is = refl
      by_body more (Stored own targets) is =
          let tables : map (target_table (rows_through d v) v) targets ≡ map (target_table (rows_through d w) w) targets =
          same_map (target_table (rows_through d v) v) (target_table (rows_through d w) w) targets (λ q k. one_target more (Stored own targets) is q (Has_from targets q k)) in
          λ i. stored_rows own targets own.defn (sources i) (each_there (tables i))

      at : (o : Option Object) → object_at w s.object ≡ o → More → option_and_then (body_rows (rows_through d v) v) (body_of o) ≡ option_and_then (body_rows (rows_through d w) w) (body_of o)
      at None e more = refl
      at (Some o) e more = by_body more o.body (sound.objects.bodies s known o e)

  pub object_spared : (s : Snapshot) → IsSnapshot all s → is_kept w.book t s ≡ true → object_rows v s.object ≡ object_rows w s.object
  object_spared = rows_spared 4096

pub sweep_leaves : (x : Parts) (w : World) (t : ℤ) → Sound x w → (made rest : List Change) → sweeps w.book t ≡ made ++ rest
    → (e : Env) → IsEnv w.book e → is_over t e.expires ≡ false → (r : Ref) → IsEntry e r
    → (view (run w made) (view_in e.name r.name) ≡ view w (view_in e.name r.name)) × (view_rows (run w made) (view_in e.name r.name) ≡ view_rows w (view_in e.name r.name))
sweep_leaves x w t sound made rest parts e known stays r entry = (spared.view_is, ap (option_and_then (object_rows v)) spared.view_is ∙ at (view w name) refl)
  where
    v : World
    v = run w made

    name : Name
    name = view_in e.name r.name

    spared : IsSpared x w sound t e known stays r entry v
    spared = exit_spared x w sound t e known stays r entry made rest parts

    -- what the view points at is the object of an entry
    at : (o : Option Name) → view w name ≡ o → option_and_then (object_rows v) o ≡ option_and_then (object_rows w) o
    at None is = refl
    at (Some target) is =
        let its = sound.views.views name target is in
        let plain = entry_plain x w sound e known r (entry_among x w sound e r entry) in
        let envs = view_names its.env.name e.name its.entry.name r.name (plain_ref w.book its.entry its.snapshot sound.book.well_formed its.is) plain (sym its.view) in
        let one : its.env ≡ e = is_old x w sound e known its.env its.known envs.0 in
        let among : IsEntry e its.entry = subst (λ (f : Env). IsEntry f its.entry) one its.of in
        let kept : is_kept w.book t its.snapshot ≡ true = entry_kept w.book sound.book.well_formed t e (known, stays) its.entry among its.snapshot its.is in
        subst (λ (n : Name). object_rows v n ≡ object_rows w n) (sym its.object)
        (object_spared x w sound t v spared.sources spared.object_is its.snapshot (is_its_own w.book.snapshots its.entry its.snapshot its.is) kept)
