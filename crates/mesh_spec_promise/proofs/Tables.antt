-- A table that is up to date holds its model's rows from scratch.
use Rattle.std.proofs.Common.{◌≡◌, ℕ, zero, suc, true, false, List, [], ◌∷◌, Some, None, refl, sym, ap, subst, arith}
use Rattle.std.specs.List.{All, Contains, filter, flat_map}
use Rattle.std.specs.Option.{option_and_then}
use Rattle.std.specs.declared.option.Option.{Option}
use Rattle.mesh_base_values.specs.Bag.{IsSameBag}
use Rattle.mesh_base.specs.Outputs.{columns_of}
use Rattle.mesh_base_values.specs.declared.times.Bounds.{Bounds}
use Rattle.mesh_base_values.specs.declared.values.Cell.{Cell}
use Rattle.mesh_base_values.specs.declared.values.Name.{Name}
use Rattle.mesh_base.specs.declared.jobs.Input.{Input}
use Rattle.mesh_base_values.specs.declared.kinds.Kind.{Kind}
use Rattle.mesh_base_values.specs.declared.kinds.Kind.TheVariants.{Full, View, Seed as SeedKind, Incremental}
use Rattle.mesh_base.specs.declared.definitions.Defn.{Defn}
use Rattle.mesh_base.specs.declared.definitions.Defn.TheVariants.{Seed, Sql}
use Rattle.mesh_base.specs.declared.definitions.Own.{Own}
use Rattle.mesh_base.specs.declared.snapshots.Snapshot.{Snapshot}
use Rattle.mesh_base.specs.rules.Proper.{is_body_of}
use Rattle.mesh_house_book.specs.declared.versions.Version.{Version}
use Rattle.mesh_spec_model.specs.Closures.{Closure, Closures, Model, Alone}
use Rattle.mesh_spec_model.specs.Horizons.{Clock, schedule}
use Rattle.mesh_base_values.specs.Kinds.{time_column}
use Rattle.mesh_spec_model.specs.Scratch.{from_scratch, no_bounds, defn_rows, is_of_unit, lies_by, piece}
use Rattle.mesh_spec_model.proofs.Rows.{seeds, incrementals}
use Rattle.mesh_law_query.proofs.Lists.{Each, each}
use Rattle.mesh_law_query.proofs.Perm.{Perm, trans, is}
use Rattle.mesh_law_query.proofs.Bags.{bag_is_perm, counts_same}
use Rattle.mesh_house.specs.declared.objects.Body.{Body}
use Rattle.mesh_house.specs.declared.objects.Body.TheVariants.{Rows, Stored}
use Rattle.mesh_house.specs.declared.world.World.{World}
use Rattle.mesh_house.specs.World.{object_at, body_of, rows_of}
use Rattle.mesh_spec_changes.specs.listed.Closing.{closed, closing, parents_by}
use Rattle.mesh_spec_promise.specs.Current.{IsRecorded}
use Rattle.mesh_spec_changes.specs.due.Parts.{Parts}
use Rattle.mesh_spec_changes.specs.shown.Shown.{body_rows, rows_through}
use Rattle.mesh_spec_promise.specs.Sound.{IsTableSound, table_rows, lies_among}
use Rattle.mesh_spec_promise.proofs.Joined.{AreApart, joined, flat_those}
use Rattle.mesh_spec_promise.proofs.Units.{units_apart}

-- what holds of each member holds of each
pub each_member : {X : Type 0} (P : X → Type 0) (xs : List X) → ((x : X) → Contains xs x → P x) → Each P xs
each_member P [] h = tt
each_member P (x ∷ xs) h = (h x (0, omega arith, refl), each_member P xs (λ y k. h y (suc k.0, omega (k.1, arith), k.2)))

-- a closure is that of its snapshot's definition
pub closed_own : (all : List Snapshot) (depth : ℕ) (s : Snapshot) → (parents : Closures) × (closed all depth s ≡ Model s.own parents)
closed_own all zero s = (Alone, refl)
closed_own all (suc depth) s = (parents_by (closed all depth) all s.parents, refl)

-- a table shows its rows, however deep one looks
pub table_shown : (depth : ℕ) (w : World) (name : Name) (rows : List (List Cell)) → table_rows w name ≡ Some rows → rows_through depth w name ≡ Some rows
table_shown zero w name rows e = e
table_shown (suc depth) w name rows e = go (body_of (object_at w name)) e
  where
    go : (o : Option Body) → rows_of o ≡ Some rows → option_and_then (body_rows (rows_through depth w) w) o ≡ Some rows
    go None e = e
    go (Some (Rows rs)) e = e
    go (Some (Stored own targets)) e = cc

-- rows that lie in the schedule, and of which those of each unit are that unit's, are those from scratch
module _ (sources : List Input) (clock : Clock) (own : Own) (parents : Closures) (time : List ℕ) (timed : time_column own.kind ≡ Some time) (rows : List (List Cell)) where
  abbrev c : Closure
  c = Model own parents

  apart : AreApart (is_of_unit own) (schedule clock c)
  apart = subst (λ (o : Option (List ℕ)). AreApart (λ u row. lies_by o (columns_of own) u row) (schedule clock c)) (sym timed) (units_apart (columns_of own) time clock c)

  units_joined : All (lies_among own (schedule clock c)) rows
      → ((u : Bounds) → Contains (schedule clock c) u → IsSameBag (filter (is_of_unit own u) rows) (piece sources clock c u))
      → IsSameBag rows (from_scratch sources clock c)
  units_joined within same =
      let front : Perm rows (flat_map (λ u. filter (is_of_unit own u) rows) (schedule clock c)) = joined (is_of_unit own) (schedule clock c) rows apart (each (lies_among own (schedule clock c)) rows within) in
      let back = flat_those (λ u. filter (is_of_unit own u) rows) (piece sources clock c) (schedule clock c)
      (each_member _ (schedule clock c) (λ u k. bag_is_perm (filter (is_of_unit own u) rows) (piece sources clock c u) (same u k))) in
      counts_same (trans front (trans back (is _ _ (sym (incrementals sources clock own parents time timed)))))

module _ (clock : Clock) (x : Parts) (w : World) (s : Snapshot) (v : Version) (made : v.made ≡ true) (rows : List (List Cell)) (at : table_rows w s.object ≡ Some rows) where
  abbrev whole : Closure
  whole = closing w.book.snapshots s

  Holds : Closure → Type 0
  Holds c = IsSameBag rows (from_scratch w.sources clock c)

  seed_held : (d : Defn) → s.own.defn ≡ d → is_body_of SeedKind d ≡ true → s.own.kind ≡ SeedKind → IsSameBag rows (defn_rows d [] no_bounds) → IsSameBag rows (from_scratch w.sources clock whole)
  seed_held (Sql q) is_it body kind same = absurd (let e : false ≡ true = body in cc)
  seed_held (Seed columns rs) is_it body kind same =
      let known = closed_own w.book.snapshots s.rank s in
      subst (λ (c : Closure). IsSameBag rows (from_scratch w.sources clock c)) (sym known.1)
      (subst (λ (r : List (List Cell)). IsSameBag rows r) (sym (seeds w.sources clock s.own known.0 columns rs kind is_it)) same)

  pub table_held : (kind : Kind) → s.own.kind ≡ kind → (kind ≡ View → ⊥) → is_body_of kind s.own.defn ≡ true → IsTableSound clock x w s v kind → IsRecorded clock x s whole v kind
      → IsSameBag rows (from_scratch w.sources clock whole)
  table_held Full is_it other body sound recorded = sound.rows recorded.0 recorded.1 rows at
  table_held View is_it other body sound recorded = absurd (other refl)
  table_held SeedKind is_it other body sound recorded = seed_held s.own.defn refl body is_it (sound recorded rows at)
  table_held (Incremental time lookback) is_it other body sound recorded =
      let known = closed_own w.book.snapshots s.rank s in
      let P : Closure → Type 0 = λ c. All (lies_among s.own (schedule clock c)) rows
      → ((u : Bounds) → Contains (schedule clock c) u → IsSameBag (filter (is_of_unit s.own u) rows) (piece w.sources clock c u))
      → IsSameBag rows (from_scratch w.sources clock c) in
      subst P (sym known.1) (units_joined w.sources clock s.own known.0 time (ap time_column is_it) rows) (sound.within made rows at)
      (λ u k. sound.pieces made u k (recorded u k).0 (recorded u k).1 rows at)
