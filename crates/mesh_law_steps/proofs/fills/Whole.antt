-- A model whose table is filled at once is filled where that is due, and so are a seed and a view.
use Rattle.std.proofs.Common.{◌≡◌, ℕ, ℤ, Bool, true, false, cond, not, ◌&&◌, List, [], ◌∷◌, Some, None, refl, sym, ◌∙◌, ap, subst, arith}
use Rattle.std.specs.declared.option.Option.{Option}
use Rattle.std.specs.List.{AllByRecursion, Contains, flat_map}
use Rattle.std.specs.Option.{ForSome, is_some, option_map}
use Rattle.mesh_base_values.specs.Bag.{IsSameBag}
use Rattle.mesh_base_values.specs.declared.kinds.Kind.{Kind}
use Rattle.mesh_base_values.specs.declared.kinds.Kind.TheVariants.{Full, View, Seed, Incremental}
use Rattle.mesh_base_values.specs.declared.values.Cell.{Cell}
use Rattle.mesh_base.specs.declared.definitions.Own.{Own}
use Rattle.mesh_base.specs.declared.forgets.Forget.{Forget}
use Rattle.mesh_base.specs.declared.forgets.Forget.TheVariants.{Marks}
use Rattle.mesh_base.specs.declared.jobs.Input.{Input}
use Rattle.mesh_base.specs.declared.snapshots.Snapshot.{Snapshot}
use Rattle.mesh_house_book.specs.Changes.{with_marks}
use Rattle.mesh_house_book.specs.declared.book.Book.{Book}
use Rattle.mesh_house_book.specs.declared.versions.Version.{Version}
use Rattle.mesh_spec_model.specs.Closures.{Closure}
use Rattle.mesh_spec_model.specs.Horizons.{Clock, Shows}
use Rattle.mesh_spec_model.specs.Scratch.{defn_rows, from_scratch, no_bounds}
use Rattle.mesh_law_query.proofs.Bags.{counts_same}
use Rattle.mesh_house.specs.declared.world.Change.{Change}
use Rattle.mesh_house.specs.declared.world.Change.TheVariants.{RecordMarks, ReplaceRows}
use Rattle.mesh_house.specs.declared.world.World.{World}
use Rattle.mesh_house.specs.Step.{step}
use Rattle.mesh_house.specs.World.{version_of}
use Rattle.mesh_spec_changes.specs.due.Dues.{due, due_of}
use Rattle.mesh_spec_changes.specs.due.Marks.{marks}
use Rattle.mesh_spec_changes.specs.due.Parts.{Parts, is_among, object_of}
use Rattle.mesh_spec_changes.specs.due.Plans.{Planned, are_marks, is_marked, marks_of}
use Rattle.mesh_spec_changes.specs.Changes.{ascending, fill, fills, is_any, parents_in, tables_for}
use Rattle.mesh_spec_promise.specs.Current.{IsReadable}
use Rattle.mesh_spec_promise.specs.Histories.{left}
use Rattle.mesh_spec_promise.specs.Sound.{Sound, table_rows}
use Rattle.mesh_spec_promise.proofs.Doubts.{taken_left}
use Rattle.mesh_spec_promise.proofs.Filled.{ascending_perm, model_filled}
use Rattle.mesh_law_changes.proofs.Recorded.{same_object}
use Rattle.mesh_law_changes.proofs.Recording.{marks_recorded}
use Rattle.mesh_law_changes.proofs.Replacing.{rows_replaced}
use Rattle.mesh_law_changes.specs.along.Along.{StaysAlong}
use Rattle.mesh_law_changes.specs.along.Filled.{IsOfObject}
use Rattle.mesh_law_changes.specs.along.Ready.{HasTheRest, IsPlaced}
use Rattle.mesh_law_changes.proofs.along.Along.{along_append, along_end, along_kept}
use Rattle.mesh_law_steps.proofs.fills.Done.{IsAllRecorded, IsThenFilled, left_nothing, left_untaken, then_done}
use Rattle.mesh_law_steps.proofs.fills.Kept.{marked_object, marked_version, of_object, of_object_then, replaced_keeps, replaced_rows}
use Rattle.mesh_law_steps.proofs.fills.Making.{IsBegun}
use Rattle.mesh_law_steps.proofs.fills.Twins.{marks_are, planned_known, rows_are, twin_own}

no_marks : (o : Option (List ℤ)) → is_some o ≡ false → o ≡ None
no_marks None e = refl
no_marks (Some ms) e = absurd (let clash : true ≡ false = e in cc)

module _ (clock : Clock) (b : Book) (forgets : List Forget) (all : List Planned) (p : Planned) (before : World) (x : Parts) (w : World) (begun : IsBegun clock b forgets p before x w) (now : Shows clock w.book.moment)
    (placed : IsPlaced all w.book.snapshots p) (covered : (q : Forget) → object_of q ≡ p.object → is_among (due clock b forgets p) q ≡ false → x q ≡ false) where
  abbrev v : Version
  v = begun.version

  abbrev ms : List ℤ
  ms = marks clock p.closure

  abbrev marking : Change
  marking = RecordMarks p.object ms

  -- nothing is due
  pub nothing_due : due clock b forgets p ≡ [] → IsAllRecorded clock x p v p.node.own.kind → IsThenFilled clock b forgets all p x w
  nothing_due none recorded =
      let only : IsOfObject p.object w w = of_object p.object w w refl refl in
      record {
        filled = [];
        fills_it = ap (fills clock w all p) none;
        along = begun.sound;
        done = then_done clock all p (left [] x) w w placed only v begun.known begun.made (subst (λ (y : Parts). IsAllRecorded clock y p v p.node.own.kind) (sym (left_nothing x)) recorded);
        only = only;
      }

  -- marks are recorded of a table with these rows
  module _ (z : Parts) (u : World) (sound : Sound z u) (only : IsOfObject p.object w u) (known : version_of u.book p.object ≡ Some v)
      (full : p.node.own.kind ≡ Full → ForSome (table_rows u p.object) (λ rows. IsSameBag rows (from_scratch u.sources clock p.closure)))
      (seed : p.node.own.kind ≡ Seed → ForSome (table_rows u p.object) (λ rows. IsSameBag rows (defn_rows p.node.own.defn [] no_bounds))) where
    there : IsPlaced all u.book.snapshots p
    there = subst (λ (ss : List Snapshot). IsPlaced all ss p) (sym only.snapshots) placed

    moment : Shows clock u.book.moment
    moment = subst (Shows clock) (sym only.moment) now

    marked : Sound (left (marking ∷ []) z) (step u marking)
    marked =
        marks_recorded z (left (marking ∷ []) z) u sound p.object v known begun.made ms (left_untaken marking z)
        (λ s known_s same is other shows. (
          sym (marks_are z u sound all p there s known_s same clock moment other shows),
          λ free rows at. subst (IsSameBag rows) (sym (rows_are z u sound all p there s known_s same clock moment other shows u.sources))
              (full (sym (ap (λ (o : Own). o.kind) (twin_own z u sound all p there s known_s same)) ∙ is) rows at),
        ))
        (λ s known_s same is rows at.
        let own = twin_own z u sound all p there s known_s same in
        subst (λ (o : Own). IsSameBag rows (defn_rows o.defn [] no_bounds)) (sym own) (seed (sym (ap (λ (o : Own). o.kind) own) ∙ is) rows at))

    marked_only : IsOfObject p.object w (step u marking)
    marked_only = of_object_then p.object w u (step u marking) only (marked_object u p.object v known ms)

  -- so is all that is to be recorded of a model that isn't incremental
  marks_are_all : (list : List Change) → Contains list marking → (kind : Kind) → ((time : List ℕ) (lookback : ℕ) → kind ≡ Incremental time lookback → ⊥) → IsAllRecorded clock (left list x) p (with_marks ms v) kind
  marks_are_all list k (Incremental time lookback) whole = absurd (whole time lookback refl)
  marks_are_all list k Full whole = (refl, taken_left list x (Marks p.object) marking k (same_object p.object))
  marks_are_all list k View whole = tt
  marks_are_all list k Seed whole = refl

  -- a table's rows are replaced, and then marks are recorded
  module _ (rows : List (List Cell)) (whole : (time : List ℕ) (lookback : ℕ) → p.node.own.kind ≡ Incremental time lookback → ⊥) (stale : p.node.own.kind ≡ Full → v.marks ≡ Some ms → ⊥) (unmarked : p.node.own.kind ≡ Seed → v.marks ≡ None)
      (full : p.node.own.kind ≡ Full → IsSameBag rows (from_scratch w.sources clock p.closure)) (seed : p.node.own.kind ≡ Seed → IsSameBag rows (defn_rows p.node.own.defn [] no_bounds)) where
    abbrev replacing : Change
    replacing = ReplaceRows p.object rows

    abbrev u : World
    u = step w replacing

    replaced : Sound x u
    replaced =
        rows_replaced x w begun.sound p.object rows
        (λ s known same time lookback is. whole time lookback (sym (ap (λ (o : Own). o.kind) (twin_own x w begun.sound all p placed s known same)) ∙ is))
        (λ s known same is t at free other shows equal.
        let one : t ≡ v = let both : Some t ≡ Some v = sym at ∙ begun.known in cc in
        stale (sym (ap (λ (o : Own). o.kind) (twin_own x w begun.sound all p placed s known same)) ∙ is)
        (ap (λ (r : Version). r.marks) (sym one) ∙ equal ∙ ap Some (marks_are x w begun.sound all p placed s known same clock now other shows)))
        (λ s known same is t at.
        let one : t ≡ v = let both : Some t ≡ Some v = sym at ∙ begun.known in cc in
        ap (λ (r : Version). r.marks) one ∙ unmarked (sym (ap (λ (o : Own). o.kind) (twin_own x w begun.sound all p placed s known same)) ∙ is))

    along_first : StaysAlong x w (replacing ∷ [])
    along_first = along_kept x w replacing begun.sound replaced (λ q. refl)

    sources_kept : u.sources ≡ w.sources
    sources_kept = (replaced_keeps w p.object rows).0

    only_rows : IsOfObject p.object w u
    only_rows = of_object p.object w u sources_kept (replaced_keeps w p.object rows).1

    known_then : version_of u.book p.object ≡ Some v
    known_then = ap (λ (c : Book). version_of c p.object) (replaced_keeps w p.object rows).1 ∙ begun.known

    full_then : p.node.own.kind ≡ Full → ForSome (table_rows u p.object) (λ r. IsSameBag r (from_scratch u.sources clock p.closure))
    full_then is r at =
        subst (λ (t : List (List Cell)). IsSameBag t (from_scratch u.sources clock p.closure)) (replaced_rows w p.object rows r at)
        (subst (λ (ss : List Input). IsSameBag rows (from_scratch ss clock p.closure)) (sym sources_kept) (full is))

    seed_then : p.node.own.kind ≡ Seed → ForSome (table_rows u p.object) (λ r. IsSameBag r (defn_rows p.node.own.defn [] no_bounds))
    seed_then is r at = subst (λ (t : List (List Cell)). IsSameBag t (defn_rows p.node.own.defn [] no_bounds)) (replaced_rows w p.object rows r at) (seed is)

    sound_then : Sound (left (replacing ∷ []) x) u
    sound_then = along_end x w (replacing ∷ []) along_first

    table_filled : fills clock w all p (due clock b forgets p) ≡ Some (replacing ∷ marking ∷ []) → IsThenFilled clock b forgets all p x w
    table_filled fills_it = record {
      filled = replacing ∷ marking ∷ [];
      fills_it = fills_it;
      along = along_append x w (replacing ∷ []) (marking ∷ []) along_first (sound_then, marked (left (replacing ∷ []) x) u sound_then only_rows known_then full_then seed_then);
      done = then_done clock all p (left (replacing ∷ marking ∷ []) x) w (step u marking) placed
          (marked_only (left (replacing ∷ []) x) u sound_then only_rows known_then full_then seed_then) (with_marks ms v) (marked_version u p.object v known_then ms) begun.made
          (marks_are_all (replacing ∷ marking ∷ []) (1, omega arith, refl) p.node.own.kind whole);
      only = marked_only (left (replacing ∷ []) x) u sound_then only_rows known_then full_then seed_then;
    }

  -- a seed
  pub seed_filled : p.node.own.kind ≡ Seed → IsThenFilled clock b forgets all p x w
  seed_filled is = go (is_marked b p.object) (ap (due_of clock b forgets p) is)
    where
      rest : is_some v.marks ≡ not (is_any (due clock b forgets p))
      rest = subst (HasTheRest clock b forgets v p) is begun.rest

      go : (m : Bool) → due clock b forgets p ≡ cond m [] (Marks p.object ∷ []) → IsThenFilled clock b forgets all p x w
      go true none = nothing_due none (subst (IsAllRecorded clock x p v) (sym is) (rest ∙ ap (λ (l : List Forget). not (is_any l)) none))
      go false some =
          table_filled (ascending (defn_rows p.node.own.defn [] no_bounds))
          (λ time lookback other. let clash : Seed ≡ Incremental time lookback = sym is ∙ other in cc)
          (λ other same. let clash : Seed ≡ Full = sym is ∙ other in cc)
          (λ same. no_marks v.marks (rest ∙ ap (λ (l : List Forget). not (is_any l)) some))
          (λ other. absurd (let clash : Seed ≡ Full = sym is ∙ other in cc))
          (λ same row. sym (counts_same (ascending_perm (defn_rows p.node.own.defn [] no_bounds)) row))
          (ap (fills clock w all p) some ∙ ap (λ (k : Kind). option_map (λ tables. flat_map (fill clock p k tables) (Marks p.object ∷ [])) (tables_for w all p k)) is)

  -- a view
  pub view_filled : p.node.own.kind ≡ View → IsThenFilled clock b forgets all p x w
  view_filled is = go (is_marked b p.object) (ap (due_of clock b forgets p) is)
    where
      no_full : p.node.own.kind ≡ Full → ForSome (table_rows w p.object) (λ rows. IsSameBag rows (from_scratch w.sources clock p.closure))
      no_full other = absurd (let clash : View ≡ Full = sym is ∙ other in cc)

      no_seed : p.node.own.kind ≡ Seed → ForSome (table_rows w p.object) (λ rows. IsSameBag rows (defn_rows p.node.own.defn [] no_bounds))
      no_seed other = absurd (let clash : View ≡ Seed = sym is ∙ other in cc)

      only : IsOfObject p.object w w
      only = of_object p.object w w refl refl

      go : (m : Bool) → due clock b forgets p ≡ cond m [] (Marks p.object ∷ []) → IsThenFilled clock b forgets all p x w
      go true none = nothing_due none (subst (IsAllRecorded clock x p v) (sym is) tt)
      go false some = record {
        filled = marking ∷ [];
        fills_it = ap (fills clock w all p) some ∙ ap (λ (k : Kind). option_map (λ tables. flat_map (fill clock p k tables) (Marks p.object ∷ [])) (tables_for w all p k)) is;
        along = (begun.sound, marked x w begun.sound only begun.known no_full no_seed);
        done = then_done clock all p (left (marking ∷ []) x) w (step w marking) placed (marked_only x w begun.sound only begun.known no_full no_seed) (with_marks ms v) (marked_version w p.object v begun.known ms) begun.made
            (marks_are_all (marking ∷ []) (0, omega arith, refl) p.node.own.kind (λ time lookback other. let clash : View ≡ Incremental time lookback = sym is ∙ other in cc));
        only = marked_only x w begun.sound only begun.known no_full no_seed;
      }

  -- a FULL model
  pub full_filled : AllByRecursion (IsReadable clock x w.book) (parents_in all p) → p.node.own.kind ≡ Full → IsThenFilled clock b forgets all p x w
  full_filled readable is = go (are_marks (marks_of (version_of b p.object)) ms && not (is_among forgets (Marks p.object))) (ap (due_of clock b forgets p) is)
    where
      rest : HasTheRest clock b forgets v p Full
      rest = subst (HasTheRest clock b forgets v p) is begun.rest

      go : (m : Bool) → due clock b forgets p ≡ cond m [] (Marks p.object ∷ []) → IsThenFilled clock b forgets all p x w
      go true none =
          nothing_due none (subst (IsAllRecorded clock x p v) (sym is)
          (rest.0 (ap is_any none), covered (Marks p.object) refl (ap (λ (l : List Forget). is_among l (Marks p.object)) none)))
      go false some =
          let read = model_filled x w clock begun.sound now all p placed.snapshot (planned_known x w begun.sound all p placed) placed.own placed.parents readable in
          table_filled (ascending (defn_rows p.node.own.defn read.0 no_bounds))
          (λ time lookback other. let clash : Full ≡ Incremental time lookback = sym is ∙ other in cc)
          (λ same. rest.1 (ap is_any some))
          (λ other. absurd (let clash : Full ≡ Seed = sym is ∙ other in cc))
          (λ same. subst (λ (c : Closure). IsSameBag (ascending (defn_rows p.node.own.defn read.0 no_bounds)) (from_scratch w.sources clock c)) placed.closure (read.3 is))
          (λ other. absurd (let clash : Full ≡ Seed = sym is ∙ other in cc))
          (ap (fills clock w all p) some
          ∙ ap (λ (k : Kind). option_map (λ tables. flat_map (fill clock p k tables) (Marks p.object ∷ [])) (tables_for w all p k)) is
          ∙ ap (option_map (λ (tables : List Input). flat_map (fill clock p Full tables) (Marks p.object ∷ []))) read.1)
