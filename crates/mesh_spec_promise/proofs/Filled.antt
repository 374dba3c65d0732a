-- What a model is filled with is its rows from scratch, where its parents and all that they stand on are up to date.
use Rattle.std.proofs.Common.{◌≡◌, Bool, true, false, cond, List, [], ◌∷◌, ◌++◌, map, Some, refl, sym, ◌∙◌, ap, subst}
use Rattle.std.specs.declared.option.Option.{Option}
use Rattle.std.specs.List.{AllByRecursion, AllZip, flat_map, slice_index_or}
use Rattle.std.specs.Option.{option_map, option_and_then}
use Rattle.std.specs.Ordering.{is_lt}
use Rattle.mesh_base_values.specs.Bag.{IsSameBag, times}
use Rattle.mesh_base_values.specs.Kinds.{is_incremental}
use Rattle.mesh_base_values.specs.Order.{row_order}
use Rattle.mesh_base.specs.Outputs.{columns_of}
use Rattle.mesh_base_values.specs.declared.kinds.Kind.{Kind}
use Rattle.mesh_base_values.specs.declared.kinds.Kind.TheVariants.{Full}
use Rattle.mesh_base.specs.declared.definitions.Own.{Own}
use Rattle.mesh_base.specs.declared.jobs.Input.{Input}
use Rattle.mesh_base.specs.declared.snapshots.Snapshot.{Snapshot}
use Rattle.mesh_base_values.specs.declared.times.Bounds.{Bounds}
use Rattle.mesh_base_values.specs.declared.values.Cell.{Cell}
use Rattle.mesh_base_values.specs.declared.values.Name.{Name}
use Rattle.mesh_base.specs.rules.Proper.{defn_names}
use Rattle.mesh_spec_model.specs.Closures.{Closure, Model, own_of, with_parent}
use Rattle.mesh_spec_model.specs.Horizons.{Clock, Shows as ShowsMoment, schedule}
use Rattle.mesh_spec_model.specs.Sources.{declared}
use Rattle.mesh_spec_model.specs.Scratch.{from_scratch, tables, table_of, piece, piece_over, rows_over, defn_rows, no_bounds}
use Rattle.mesh_law_query.specs.Alike.{AreSameTables}
use Rattle.mesh_law_query.proofs.Models.{piece_bag, step_bag}
use Rattle.mesh_law_query.proofs.Perm.{Perm, nil, skip, swap, trans, same}
use Rattle.mesh_law_query.proofs.Bags.{counts_same}
use Rattle.mesh_law_query.proofs.Zips.{zip_append, zip_itself}
use Rattle.mesh_house.specs.declared.world.World.{World}
use Rattle.mesh_spec_changes.specs.Changes.{inserted, ascending, planned_ref, parent_table, tables_read, parents_in}
use Rattle.mesh_spec_changes.specs.listed.Closing.{closing, parents_by, IsSnapshot}
use Rattle.mesh_spec_promise.specs.Current.{IsReadable}
use Rattle.mesh_spec_changes.specs.due.Parts.{Parts}
use Rattle.mesh_spec_changes.specs.due.Plans.{Planned}
use Rattle.mesh_spec_changes.specs.shown.Shown.{each_there, object_rows}
use Rattle.mesh_spec_promise.specs.Sound.{Sound}
use Rattle.mesh_spec_changes.proofs.listed.Depths.{closing_is}
use Rattle.mesh_spec_promise.proofs.Tables.{closed_own}
use Rattle.mesh_spec_promise.proofs.Views.{IsOne, found_one, itself, object_shown}

-- rows in ascending order are the same rows
inserted_perm : (row : List Cell) (rows : List (List Cell)) → Perm (row ∷ rows) (inserted row rows)
inserted_perm row [] = same (row ∷ [])
inserted_perm row (r ∷ rs) = go (is_lt (row_order r row)) (inserted_perm row rs)
  where
    go : (b : Bool) → Perm (row ∷ rs) (inserted row rs) → Perm (row ∷ r ∷ rs) (cond b (r ∷ inserted row rs) (row ∷ r ∷ rs))
    go true p = trans swap (skip p)
    go false p = same (row ∷ r ∷ rs)

pub ascending_perm : (rows : List (List Cell)) → Perm rows (ascending rows)
ascending_perm [] = nil
ascending_perm (row ∷ rows) = trans (skip (ascending_perm rows)) (inserted_perm row (ascending rows))

module _ (x : Parts) (w : World) (clock : Clock) (sound : Sound x w) (now : ShowsMoment clock w.book.moment) where
  abbrev pub scratch_tables : List Planned → List Input
  scratch_tables qs = tables w.sources clock (parents_by (closing w.book.snapshots) w.book.snapshots (map planned_ref qs))

  abbrev pub Read : List Planned → Type 0
  Read qs = (ts : List Input) × (each_there (map (parent_table w) qs) ≡ Some ts) × AllZip IsOne ts (scratch_tables qs)

  one_read : (q : Planned) (qs : List Planned) → IsReadable clock x w.book q → Read qs → Read (q ∷ qs)
  one_read q qs h (ts, there, z) =
      let p = h.done.snapshot in
      let c = closing w.book.snapshots p in
      let shown = object_shown x w clock sound now p h.all in
      let t : Input = table_of q.node.own shown.0 in
      let own_is : own_of c ≡ q.node.own = ap own_of (closed_own w.book.snapshots p.rank p).1 ∙ h.done.own in
      let table : parent_table w q ≡ Some t = ap (λ (n : Name). option_map (table_of q.node.own) (object_rows w n)) (sym h.done.object) ∙ ap (option_map (table_of q.node.own)) shown.1 in
      let all : each_there (map (parent_table w) (q ∷ qs)) ≡ Some (t ∷ ts) = (λ i. option_and_then (λ u. option_map (λ us. u ∷ us) (there i)) (table i)) in
      let parents : scratch_tables (q ∷ qs) ≡ table_of (own_of c) (from_scratch w.sources clock c) ∷ scratch_tables qs =
      ap (λ (o : Option Snapshot). tables w.sources clock (with_parent (option_map (closing w.book.snapshots) o) (parents_by (closing w.book.snapshots) w.book.snapshots (map planned_ref qs)))) h.done.known in
      let one : IsOne t (table_of (own_of c) (from_scratch w.sources clock c)) =
      record { name = ap (λ (o : Own). o.name) (sym own_is); columns = ap columns_of (sym own_is); rows = shown.2 } in
      (t ∷ ts, all, subst (λ (us : List Input). AllZip IsOne (t ∷ ts) us) (sym parents) (one, z))

  pub read : (qs : List Planned) → AllByRecursion (IsReadable clock x w.book) qs → Read qs
  read [] h = ([], refl, tt)
  read (q ∷ qs) h = one_read q qs h.0 (read qs h.1)

  -- the tables that a planned model reads, and its rows over them
  module _ (models : List Planned) (p : Planned) (s : Snapshot) (known : IsSnapshot w.book.snapshots s) (own : s.own ≡ p.node.own) (parents : s.parents ≡ map planned_ref (parents_in models p))
      (readable : AllByRecursion (IsReadable clock x w.book) (parents_in models p)) where
    abbrev own_sources : List Input
    own_sources = map (declared w.sources) p.node.own.sources

    abbrev inputs : List Input
    inputs = own_sources ++ (read (parents_in models p) readable).0

    inputs_there : tables_read w models p ≡ Some inputs
    inputs_there = ap (option_map (λ ts. own_sources ++ ts)) (read (parents_in models p) readable).1

    abbrev closure : Closure
    closure = Model p.node.own (parents_by (closing w.book.snapshots) w.book.snapshots (map planned_ref (parents_in models p)))

    closure_is : closing w.book.snapshots s ≡ closure
    closure_is = closing_is w.book sound.book.well_formed s known ∙ (λ i. Model (own i) (parents_by (closing w.book.snapshots) w.book.snapshots (parents i)))

    alike : AreSameTables (defn_names p.node.own.defn) inputs (own_sources ++ scratch_tables (parents_in models p))
    alike = λ k d l. found_one (slice_index_or (defn_names p.node.own.defn) k d) inputs (own_sources ++ scratch_tables (parents_in models p))
        (zip_append IsOne own_sources own_sources (read (parents_in models p) readable).0 (scratch_tables (parents_in models p)) (zip_itself IsOne itself own_sources) (read (parents_in models p) readable).2)

    -- one unit
    unit_filled : (u : Bounds) → IsSameBag (ascending (piece_over p.node.own inputs u)) (piece w.sources clock (closing w.book.snapshots s) u)
    unit_filled u =
        subst (λ (c : Closure). IsSameBag (ascending (piece_over p.node.own inputs u)) (piece w.sources clock c u)) (sym closure_is)
        (λ row. sym (counts_same (ascending_perm (piece_over p.node.own inputs u)) row) ∙ piece_bag inputs (own_sources ++ scratch_tables (parents_in models p)) p.node.own alike u row)

    -- a whole table
    at_once : p.node.own.kind ≡ Full → (units : List Bounds) → defn_rows p.node.own.defn inputs no_bounds ≡ rows_over p.node.own inputs units
    at_once full units = sym (ap (λ (k : Kind). cond (is_incremental k) (flat_map (piece_over p.node.own inputs) units) (defn_rows p.node.own.defn inputs no_bounds)) full)

    whole_filled : p.node.own.kind ≡ Full → IsSameBag (ascending (defn_rows p.node.own.defn inputs no_bounds)) (from_scratch w.sources clock (closing w.book.snapshots s))
    whole_filled full =
        let b = own_sources ++ scratch_tables (parents_in models p) in
        subst (λ (c : Closure). IsSameBag (ascending (defn_rows p.node.own.defn inputs no_bounds)) (from_scratch w.sources clock c)) (sym closure_is)
        (λ row. sym (counts_same (ascending_perm (defn_rows p.node.own.defn inputs no_bounds)) row)
        ∙ (ap (times row) (at_once full (schedule clock closure)) ∙ step_bag inputs b p.node.own alike (schedule clock closure) row))

    pub model_filled : (tables_of : List Input) × (tables_read w models p ≡ Some tables_of)
        × ((u : Bounds) → IsSameBag (ascending (piece_over p.node.own tables_of u)) (piece w.sources clock (closing w.book.snapshots s) u))
        × (p.node.own.kind ≡ Full → IsSameBag (ascending (defn_rows p.node.own.defn tables_of no_bounds)) (from_scratch w.sources clock (closing w.book.snapshots s)))
    model_filled = (inputs, inputs_there, unit_filled, whole_filled)
