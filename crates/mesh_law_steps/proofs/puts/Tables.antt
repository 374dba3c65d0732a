-- What is recorded of a table is so for a snapshot that comes to share it with a twin.
use Rattle.std.proofs.Common.{◌≡◌, Some, refl, sym, ◌∙◌, ap, subst}
use Rattle.std.specs.Prelude.{◌≤ℤ◌, List}
use Rattle.std.specs.declared.option.Option.{Option}
use Rattle.std.specs.List.{All, AllZip, Contains, filter}
use Rattle.std.specs.Option.{ForSome}
use Rattle.mesh_base_values.specs.Bag.{IsSameBag}
use Rattle.mesh_base_values.specs.declared.kinds.Kind.{Kind}
use Rattle.mesh_base_values.specs.declared.kinds.Kind.TheVariants.{Full, View, Seed, Incremental}
use Rattle.mesh_base_values.specs.declared.times.Bounds.{Bounds}
use Rattle.mesh_base_values.specs.declared.values.Cell.{Cell}
use Rattle.mesh_base_values.specs.declared.values.Name.{Name}
use Rattle.mesh_base.specs.declared.definitions.Own.{Own}
use Rattle.mesh_base.specs.declared.jobs.Input.{Input}
use Rattle.mesh_base.specs.declared.snapshots.Snapshot.{Snapshot}
use Rattle.mesh_house_book.specs.Changes.{put_snapshot}
use Rattle.mesh_house_book.specs.declared.versions.Version.{Version}
use Rattle.mesh_spec_model.specs.Closures.{Closure, Model, own_of}
use Rattle.mesh_spec_model.specs.Horizons.{Clock, schedule}
use Rattle.mesh_spec_model.specs.Scratch.{is_of_unit}
use Rattle.mesh_house.specs.declared.world.Change.TheVariants.{PutSnapshot}
use Rattle.mesh_house.specs.declared.world.World.{World}
use Rattle.mesh_house.specs.Step.{step}
use Rattle.mesh_spec_changes.specs.listed.Closing.{closing}
use Rattle.mesh_spec_changes.specs.reuse.Cores.{IsTwin, core}
use Rattle.mesh_law_reuse.proofs.Sharing.{same_pieces, same_rows, same_schedules, twin_marks}
use Rattle.mesh_spec_changes.specs.due.Parts.{Parts}
use Rattle.mesh_spec_promise.specs.Sound.{AreUnits, IsFullSound, IsIncrementalSound, IsSeedSound, IsTableSound, lies_among, table_rows}

core_own : (c : Closure) → own_of (core c) ≡ own_of c
core_own (Model own parents) = refl

-- twins have one definition
pub twin_own : (a b : Closure) → IsTwin a b → own_of a ≡ own_of b
twin_own a b t = sym (core_own a) ∙ ap own_of t ∙ core_own b

module _ (clock : Clock) (y : Parts) (sources : List Input) (table : Option (List (List Cell))) (object : Name) (c d : Closure) (twin : IsTwin c d) (v : Version) where
  units_are : schedule clock c ≡ schedule clock d
  units_are = same_schedules c d twin clock

  incremental_twin : (own : Own) → IsIncrementalSound clock y sources table object c own v → IsIncrementalSound clock y sources table object d own v
  incremental_twin own h = record {
    units = subst (λ us. AreUnits us v.ranges) units_are h.units;
    within = λ m. subst (λ us. ForSome table (λ rows. All (lies_among own us) rows)) units_are (h.within m);
    pieces = λ m u k held free.
        subst (λ ps. ForSome table (λ rows. IsSameBag (filter (is_of_unit own u) rows) ps)) (same_pieces c d twin sources clock u)
        (h.pieces m u (subst (λ (us : List Bounds). Contains us u) (sym units_are) k) held free);
  }

  full_twin : IsFullSound clock y sources table object c v → IsFullSound clock y sources table object d v
  full_twin h = record {
    no_later = subst (λ ms. ForSome v.marks (λ old. AllZip (λ m n. m ≤ℤ n) old ms)) (twin_marks c d twin clock) h.no_later;
    rows = λ e free. subst (λ rs. ForSome table (λ rows. IsSameBag rows rs)) (same_rows c d twin sources clock) (h.rows (e ∙ ap Some (sym (twin_marks c d twin clock))) free);
  }

module _ (y : Parts) (w : World) (s t : Snapshot) (own : t.own ≡ s.own) (object : t.object ≡ s.object) (twin : IsTwin (closing w.book.snapshots t) (closing (put_snapshot w.book s).snapshots s)) (clock : Clock) (v : Version) where
  abbrev before : Closure
  before = closing w.book.snapshots t

  abbrev after : Closure
  after = closing (put_snapshot w.book s).snapshots s

  pub table_twin : (kind : Kind) → IsTableSound clock y w t v kind → IsTableSound clock y (step w (PutSnapshot s)) s v kind
  table_twin (Incremental time lookback) h =
      incremental_twin clock y w.sources (table_rows w s.object) s.object before after twin v s.own
      (subst (λ (d : Own). IsIncrementalSound clock y w.sources (table_rows w s.object) s.object before d v) own
      (subst (λ (n : Name). IsIncrementalSound clock y w.sources (table_rows w n) n before t.own v) object h))
  table_twin Full h = full_twin clock y w.sources (table_rows w s.object) s.object before after twin v (subst (λ (n : Name). IsFullSound clock y w.sources (table_rows w n) n before v) object h)
  table_twin Seed h = subst (λ (d : Own). IsSeedSound (table_rows w s.object) d v) own (subst (λ (n : Name). IsSeedSound (table_rows w n) t.own v) object h)
  table_twin View h = tt
