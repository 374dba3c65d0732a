-- A model whose table is recorded is filled in its turn with the rows that it has, those from scratch. What of it
-- isn't due isn't filled, and keeps its rows whatever they are.
use Rattle.std.proofs.Common.{◌≡◌, ℕ, ℤ, Bool, true, false, cond, not, ◌&&◌, ◌||◌, List, [], ◌∷◌, ◌++◌, map, None, Some, refl, sym, ◌∙◌, ap, subst, IsSome}
use Rattle.std.specs.List.{AllByRecursion, Contains, filter, flat_map}
use Rattle.std.specs.Option.{is_some, option_map}
use Rattle.std.specs.declared.option.Option.{Option}
use Rattle.mesh_base_values.specs.Bag.{IsSameBag}
use Rattle.mesh_base_values.specs.declared.kinds.Kind.{Kind}
use Rattle.mesh_base_values.specs.declared.kinds.Kind.TheVariants.{Full, View, Seed, Incremental}
use Rattle.mesh_base_values.specs.declared.times.Bounds.{Bounds}
use Rattle.mesh_base_values.specs.declared.values.Cell.{Cell}
use Rattle.mesh_base_values.specs.declared.values.Name.{Name}
use Rattle.mesh_base.specs.declared.definitions.Own.{Own}
use Rattle.mesh_base.specs.declared.forgets.Forget.{Forget}
use Rattle.mesh_base.specs.declared.forgets.Forget.TheVariants.{Marks}
use Rattle.mesh_base.specs.declared.jobs.Input.{Input}
use Rattle.mesh_base.specs.declared.snapshots.Snapshot.{Snapshot}
use Rattle.mesh_time.specs.Ranges.{is_held}
use Rattle.mesh_house_book.specs.declared.book.Book.{Book}
use Rattle.mesh_house_book.specs.declared.versions.Version.{Version}
use Rattle.mesh_spec_model.specs.Closures.{Closure, own_of}
use Rattle.mesh_spec_model.specs.Horizons.{Clock, Shows, schedule}
use Rattle.mesh_spec_model.specs.Scratch.{defn_rows, from_scratch, is_of_unit, no_bounds, piece, piece_over}
use Rattle.mesh_law_query.proofs.Has.{Has, Has_to}
use Rattle.mesh_house.specs.Step.{step}
use Rattle.mesh_house.specs.World.{version_of}
use Rattle.mesh_house.specs.declared.world.Change.{Change}
use Rattle.mesh_house.specs.declared.world.Change.TheVariants.{RecordMarks, ReplaceRows}
use Rattle.mesh_house.specs.declared.world.World.{World}
use Rattle.mesh_spec_changes.specs.listed.Closing.{closing}
use Rattle.mesh_spec_changes.specs.reuse.Cores.{IsTwin}
use Rattle.mesh_law_reuse.proofs.Sharing.{same_pieces, same_rows, same_schedules, twin_marks}
use Rattle.mesh_spec_changes.specs.due.Dues.{due, due_of, due_units, is_due_unit}
use Rattle.mesh_spec_changes.specs.due.Marks.{marks, same_marks}
use Rattle.mesh_spec_changes.specs.due.Parts.{Parts, is_among, unit_of}
use Rattle.mesh_spec_changes.specs.due.Plans.{Planned, are_marks, is_made, marks_of, ranges_of}
use Rattle.mesh_spec_changes.proofs.due.Ordered.{due_iff}
use Rattle.mesh_spec_changes.specs.Changes.{ascending, fill, fills, is_any, makes, parents_in, tables_for, tables_read}
use Rattle.mesh_spec_promise.specs.Current.{IsReadable}
use Rattle.mesh_spec_promise.specs.Sound.{Sound}
use Rattle.mesh_spec_promise.proofs.Filled.{model_filled}
use Rattle.mesh_spec_promise.proofs.Tables.{closed_own}
use Rattle.mesh_law_changes.specs.along.Filled.{making_of}
use Rattle.mesh_law_changes.specs.along.Ready.{IsPlaced}
use Rattle.mesh_law_steps.proofs.puts.Tables.{twin_own}
use Rattle.mesh_law_steps.proofs.fills.Twins.{planned_known}
use Rattle.mesh_law_steps.proofs.fills.Unit.{unit_changes}
use Rattle.mesh_law_promise.proofs.isolation.Holds.{HoldsAlong}
use Rattle.mesh_law_promise.proofs.isolation.Rows.{Keeps, keeps_elsewhere, keeps_replaced}
use Rattle.mesh_law_promise.proofs.isolation.Turns.{FillsAgain}
use Rattle.mesh_law_promise.proofs.isolation.Units.{int_itself, units_hold}

own_closing : (all : List Snapshot) (s : Snapshot) → own_of (closing all s) ≡ s.own
own_closing all s = ap own_of (closed_own all s.rank s).1

some_list : (xs ys : List Change) → Some xs ≡ Some ys → xs ≡ ys
some_list xs ys e = cc

marks_itself : (ms : List ℤ) → same_marks ms ms ≡ true
marks_itself [] = refl
marks_itself (m ∷ ms) = ap (λ (t : Bool). t && same_marks ms ms) (int_itself m) ∙ marks_itself ms

-- a planned model of which a snapshot is a twin has the snapshot's definition
pub placed_own : (all : List Planned) (snapshots : List Snapshot) (s : Snapshot) (p : Planned) → IsTwin (closing snapshots s) p.closure → (now : List Snapshot) → IsPlaced all now p → p.node.own ≡ s.own
placed_own all snapshots s p twin now placed =
    sym placed.own ∙ sym (own_closing now placed.snapshot) ∙ ap own_of placed.closure ∙ sym (twin_own (closing snapshots s) p.closure twin) ∙ own_closing snapshots s

module _ (clock : Clock) (b : Book) (forgets : List Forget) (all : List Planned) (snapshots : List Snapshot) (s : Snapshot) (v : Version) (at : version_of b s.object ≡ Some v)
    (made : v.made ≡ true) (p : Planned) (its : p.object ≡ s.object) (twin : IsTwin (closing snapshots s) p.closure) (own_is : p.node.own ≡ s.own) (u : World) where
  abbrev c : Closure
  c = closing snapshots s

  kind_is : (kind : Kind) → s.own.kind ≡ kind → p.node.own.kind ≡ kind
  kind_is kind is = ap (λ (o : Own). o.kind) own_is ∙ is

  version_is : version_of b p.object ≡ Some v
  version_is = ap (version_of b) its ∙ at

  -- its table is made already
  none_made : (kind : Kind) → s.own.kind ≡ kind → (kind ≡ View → ⊥) → making_of clock b forgets all p ≡ []
  none_made kind is table = ap (λ (m : Bool). makes m all p p.node.own.kind (is_any (due clock b forgets p))) (ap is_made version_is ∙ made) ∙ go kind (kind_is kind is) table
    where
      go : (k : Kind) → p.node.own.kind ≡ k → (k ≡ View → ⊥) → makes true all p p.node.own.kind (is_any (due clock b forgets p)) ≡ []
      go (Incremental time lookback) e other = ap (λ (k : Kind). makes true all p k (is_any (due clock b forgets p))) e
      go Full e other = ap (λ (k : Kind). makes true all p k (is_any (due clock b forgets p))) e
      go Seed e other = ap (λ (k : Kind). makes true all p k (is_any (due clock b forgets p))) e
      go View e other = absurd (other refl)

  -- nothing fills it where nothing is due
  due_none : (K : World → Type 0) → K u → due clock b forgets p ≡ [] → (filled : List Change) → fills clock u all p (due clock b forgets p) ≡ Some filled → HoldsAlong K u filled
  due_none K k none filled e = subst (HoldsAlong K u) (some_list [] filled (sym (ap (fills clock u all p) none) ∙ e)) k

  -- what holds of the model's object holds of the snapshot's
  module _ (part : Own → List (List Cell) → List (List Cell)) (fixed : List (List Cell)) where
    abbrev K : World → Type 0
    K = Keeps part fixed s.object s.own

    of_snapshot : (w : World) (list : List Change) → HoldsAlong (Keeps part fixed p.object p.node.own) w list → HoldsAlong K w list
    of_snapshot w list h = subst (λ (n : Name). HoldsAlong (Keeps part fixed n s.own) w list) its (subst (λ (o : Own). HoldsAlong (Keeps part fixed p.object o) w list) own_is h)

    of_model : (w : World) → K w → Keeps part fixed p.object p.node.own w
    of_model w k = subst (λ (o : Own). Keeps part fixed p.object o w) (sym own_is) (subst (λ (n : Name). Keeps part fixed n s.own w) (sym its) k)

  -- an incremental model, with a unit of its schedule
  module _ (time : List ℕ) (lookback : ℕ) (is : s.own.kind ≡ Incremental time lookback) (d : Bounds) (listed : Contains (schedule clock c) d) where
    abbrev unit_rows : Own → List (List Cell) → List (List Cell)
    unit_rows o = filter (is_of_unit o d)

    timed : p.node.own.kind ≡ Incremental time lookback
    timed = kind_is (Incremental time lookback) is

    there : Contains (schedule clock p.closure) d
    there = subst (λ (us : List Bounds). Contains us d) (same_schedules c p.closure twin clock) listed

    due_there : (e : Bounds) → Has e (due_units clock b forgets p) → Contains (schedule clock p.closure) e × (is_due_unit b forgets p e ≡ true)
    due_there e h = (due_iff clock b forgets p e).0 (Has_to (due_units clock b forgets p) e h)

    -- what fills some units, over the tables that it reads
    fills_over : (e : Bounds) (es : List Bounds) (o : Option (List Input)) → tables_read u all p ≡ o
        → fills clock u all p (map (unit_of p.object) (e ∷ es)) ≡ option_map (λ ts. flat_map (fill clock p (Incremental time lookback) ts) (map (unit_of p.object) (e ∷ es))) o
    fills_over e es o read =
        ap (λ (k : Kind). option_map (λ ts. flat_map (fill clock p k ts) (map (unit_of p.object) (e ∷ es))) (tables_for u all p k)) timed
        ∙ ap (option_map (λ (ts : List Input). flat_map (fill clock p (Incremental time lookback) ts) (map (unit_of p.object) (e ∷ es)))) read

    due_are : due clock b forgets p ≡ map (unit_of p.object) (due_units clock b forgets p)
    due_are = ap (due_of clock b forgets p) timed

    -- where they aren't all there, nothing does
    none_filled : tables_read u all p ≡ None → (us : List Bounds) (filled : List Change) → fills clock u all p (map (unit_of p.object) us) ≡ Some filled → [] ≡ filled
    none_filled none [] filled e = some_list [] filled e
    none_filled none (e ∷ es) filled f = absurd (let clash : None ≡ Some filled = sym (fills_over e es None none) ∙ f in cc)

    module _ (tables : List Input) (read : tables_read u all p ≡ Some tables) where
      flat_same : (us : List Bounds) → flat_map (fill clock p (Incremental time lookback) tables) (map (unit_of p.object) us) ≡ flat_map (unit_changes p time tables) us
      flat_same [] = refl
      flat_same (e ∷ es) = ap (λ (l : List Change). unit_changes p time tables e ++ l) (flat_same es)

      fills_are : (us : List Bounds) → fills clock u all p (map (unit_of p.object) us) ≡ Some (flat_map (unit_changes p time tables) us)
      fills_are [] = refl
      fills_are (e ∷ es) = fills_over e es (Some tables) read ∙ ap Some (flat_same (e ∷ es))

    -- what fills it keeps these rows of the unit, where they are also what the unit gets if it's due
    module _ (fixed : List (List Cell)) (k : Keeps unit_rows fixed s.object s.own u) where
      over_tables : (tables : List Input) → tables_read u all p ≡ Some tables → (Has d (due_units clock b forgets p) → IsSameBag (ascending (piece_over p.node.own tables d)) fixed)
          → (filled : List Change) → fills clock u all p (due clock b forgets p) ≡ Some filled → HoldsAlong (Keeps unit_rows fixed s.object s.own) u filled
      over_tables tables read again filled e =
          let changes : List Change = flat_map (unit_changes p time tables) (due_units clock b forgets p) in
          let are : fills clock u all p (due clock b forgets p) ≡ Some changes = ap (fills clock u all p) due_are ∙ fills_are tables read (due_units clock b forgets p) in
          let held : HoldsAlong (Keeps unit_rows fixed p.object p.node.own) u changes =
          units_hold clock p time lookback timed tables d there fixed (due_units clock b forgets p) (λ f h. (due_there f h).0) again u (of_model unit_rows fixed u k) in
          subst (HoldsAlong (Keeps unit_rows fixed s.object s.own) u) (some_list changes filled (sym are ∙ e)) (of_snapshot unit_rows fixed u changes held)

      -- a recorded unit that isn't computed again
      module _ (held : is_held v.ranges d.start d.end ≡ true) (free : is_among forgets (unit_of s.object d) ≡ false) where
        not_due : is_due_unit b forgets p d ≡ false
        not_due =
            ap (λ (o : Option Version). not (is_held (ranges_of o) d.start d.end) || is_among forgets (unit_of p.object d)) version_is
            ∙ ap (λ (h : Bool). not h || is_among forgets (unit_of p.object d)) held
            ∙ ap (λ (n : Name). is_among forgets (unit_of n d)) its
            ∙ free

        never : Has d (due_units clock b forgets p) → ⊥
        never h = let clash : true ≡ false = sym (due_there d h).1 ∙ not_due in cc

        pub unit_spared : FillsAgain clock b forgets all (Keeps unit_rows fixed s.object s.own) p u
        unit_spared = record { makes_none = none_made (Incremental time lookback) is (λ f. cc); holds = go (tables_read u all p) refl }
          where
            go : (o : Option (List Input)) → tables_read u all p ≡ o → (filled : List Change) → fills clock u all p (due clock b forgets p) ≡ Some filled
                → HoldsAlong (Keeps unit_rows fixed s.object s.own) u filled
            go (Some tables) read filled e = over_tables tables read (λ h. absurd (never h)) filled e
            go None read filled e =
                subst (HoldsAlong (Keeps unit_rows fixed s.object s.own) u) (none_filled read (due_units clock b forgets p) filled (sym (ap (fills clock u all p) due_are) ∙ e)) k

  abbrev all_rows : Own → List (List Cell) → List (List Cell)
  all_rows o rows = rows

  -- a FULL model
  module _ (is : s.own.kind ≡ Full) where
    full : p.node.own.kind ≡ Full
    full = kind_is Full is

    -- whose marks are its model's, and that isn't computed again
    module _ (marked : v.marks ≡ Some (marks clock c)) (free : is_among forgets (Marks s.object) ≡ false) (fixed : List (List Cell)) where
      whole_done : (are_marks (marks_of (version_of b p.object)) (marks clock p.closure) && not (is_among forgets (Marks p.object))) ≡ true
      whole_done =
          ap (λ (o : Option Version). are_marks (marks_of o) (marks clock p.closure) && not (is_among forgets (Marks p.object))) version_is
          ∙ ap (λ (o : Option (List ℤ)). are_marks o (marks clock p.closure) && not (is_among forgets (Marks p.object))) (marked ∙ ap Some (twin_marks c p.closure twin clock))
          ∙ ap (λ (t : Bool). t && not (is_among forgets (Marks p.object))) (marks_itself (marks clock p.closure))
          ∙ ap (λ (n : Name). not (is_among forgets (Marks n))) its
          ∙ ap not free

      pub whole_spared : Keeps all_rows fixed s.object s.own u → FillsAgain clock b forgets all (Keeps all_rows fixed s.object s.own) p u
      whole_spared k = record {
        makes_none = none_made Full is (λ f. cc);
        holds = due_none (Keeps all_rows fixed s.object s.own) k (ap (due_of clock b forgets p) full ∙ ap (λ (m : Bool). cond m [] (Marks p.object ∷ [])) whole_done);
      }

  -- a seed that has marks
  module _ (is : s.own.kind ≡ Seed) (marked : IsSome v.marks) (fixed : List (List Cell)) where
    seeded : due clock b forgets p ≡ []
    seeded =
        ap (due_of clock b forgets p) (kind_is Seed is)
        ∙ ap (λ (m : Bool). cond m [] (Marks p.object ∷ [])) (ap (λ (o : Option Version). is_some (marks_of o)) version_is ∙ marked)

    pub seed_again : Keeps all_rows fixed s.object s.own u → FillsAgain clock b forgets all (Keeps all_rows fixed s.object s.own) p u
    seed_again k = record { makes_none = none_made Seed is (λ f. cc); holds = due_none (Keeps all_rows fixed s.object s.own) k seeded }

  -- in a sound world, over parents that are done
  module _ (sources : List Input) (x : Parts) (sound : Sound x u) (now : Shows clock u.book.moment) (placed : IsPlaced all u.book.snapshots p)
      (readable : AllByRecursion (IsReadable clock x u.book) (parents_in all p)) (same : u.sources ≡ sources) where
    -- an incremental model, with a unit of its schedule
    module _ (time : List ℕ) (lookback : ℕ) (is : s.own.kind ≡ Incremental time lookback) (d : Bounds) (listed : Contains (schedule clock c) d) where
      abbrev from : List (List Cell)
      from = piece sources clock c d

      pub unit_again : Keeps (λ o. filter (is_of_unit o d)) from s.object s.own u → FillsAgain clock b forgets all (Keeps (λ o. filter (is_of_unit o d)) from s.object s.own) p u
      unit_again k =
          let read = model_filled x u clock sound now all p placed.snapshot (planned_known x u sound all p placed) placed.own placed.parents readable in
          let rows_are : piece u.sources clock (closing u.book.snapshots placed.snapshot) d ≡ from =
          (λ i. piece (same i) clock (placed.closure i) d) ∙ sym (same_pieces c p.closure twin sources clock d) in
          record {
            makes_none = none_made (Incremental time lookback) is (λ f. cc);
            holds = over_tables time lookback is d listed from k read.0 read.1 (λ h. subst (IsSameBag (ascending (piece_over p.node.own read.0 d))) rows_are (read.2 d));
          }

    -- a FULL model
    module _ (is : s.own.kind ≡ Full) where
      abbrev scratch : List (List Cell)
      scratch = from_scratch sources clock c

      pub whole_again : Keeps all_rows scratch s.object s.own u → FillsAgain clock b forgets all (Keeps all_rows scratch s.object s.own) p u
      whole_again k = record {
        makes_none = none_made Full is (λ f. cc);
        holds = go (are_marks (marks_of (version_of b p.object)) (marks clock p.closure) && not (is_among forgets (Marks p.object))) (ap (due_of clock b forgets p) (full is));
      }
        where
          go : (m : Bool) → due clock b forgets p ≡ cond m [] (Marks p.object ∷ []) → (filled : List Change) → fills clock u all p (due clock b forgets p) ≡ Some filled
              → HoldsAlong (Keeps all_rows scratch s.object s.own) u filled
          go true none filled e = due_none (Keeps all_rows scratch s.object s.own) k none filled e
          go false some filled e =
              let read = model_filled x u clock sound now all p placed.snapshot (planned_known x u sound all p placed) placed.own placed.parents readable in
              let rows : List (List Cell) = ascending (defn_rows p.node.own.defn read.0 no_bounds) in
              let changes : List Change = ReplaceRows p.object rows ∷ RecordMarks p.object (marks clock p.closure) ∷ [] in
              let are : fills clock u all p (due clock b forgets p) ≡ Some changes =
              ap (fills clock u all p) some
              ∙ ap (λ (k : Kind). option_map (λ tables. flat_map (fill clock p k tables) (Marks p.object ∷ [])) (tables_for u all p k)) (full is)
              ∙ ap (option_map (λ (tables : List Input). flat_map (fill clock p Full tables) (Marks p.object ∷ []))) read.1 in
              let rows_are : from_scratch u.sources clock (closing u.book.snapshots placed.snapshot) ≡ scratch =
              (λ i. from_scratch (same i) clock (placed.closure i)) ∙ sym (same_rows c p.closure twin sources clock) in
              let first : Keeps all_rows scratch p.object p.node.own u = of_model all_rows scratch u k in
              let second : Keeps all_rows scratch p.object p.node.own (step u (ReplaceRows p.object rows)) =
              keeps_replaced all_rows scratch p.object p.node.own u rows first (subst (IsSameBag rows) rows_are (read.3 (full is))) in
              let third = keeps_elsewhere all_rows scratch p.object p.node.own (step u (ReplaceRows p.object rows)) (RecordMarks p.object (marks clock p.closure)) tt second in
              subst (HoldsAlong (Keeps all_rows scratch s.object s.own) u) (some_list changes filled (sym are ∙ e)) (of_snapshot all_rows scratch u changes (first, (second, third)))
