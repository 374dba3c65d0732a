-- A seed, a view and a FULL model that are made are filled, whatever the rows of their parents are.
use Rattle.std.proofs.Common.{◌≡◌, ◌&&◌, ℕ, ℤ, Bool, true, false, cond, not, List, [], ◌∷◌, Some, None, refl, sym, ◌∙◌, ap, subst}
use Rattle.std.specs.declared.option.Option.{Option}
use Rattle.std.specs.List.{flat_map}
use Rattle.std.specs.Option.{ForSome, is_some, option_map}
use Rattle.mesh_base_values.specs.Bag.{IsSameBag}
use Rattle.mesh_base_values.specs.declared.kinds.Kind.{Kind}
use Rattle.mesh_base_values.specs.declared.kinds.Kind.TheVariants.{Full, View, Seed, Incremental}
use Rattle.mesh_base_values.specs.declared.values.Cell.{Cell}
use Rattle.mesh_base.specs.declared.definitions.Own.{Own}
use Rattle.mesh_base.specs.declared.forgets.Forget.{Forget}
use Rattle.mesh_base.specs.declared.forgets.Forget.TheVariants.{Marks}
use Rattle.mesh_base.specs.declared.jobs.Input.{Input}
use Rattle.mesh_base.specs.declared.snapshots.Snapshot.{Snapshot}
use Rattle.mesh_house_book.specs.Changes.{with_marks}
use Rattle.mesh_house_book.specs.declared.book.Book.{Book}
use Rattle.mesh_house_book.specs.declared.versions.Version.{Version}
use Rattle.mesh_spec_model.specs.Horizons.{Clock, Shows}
use Rattle.mesh_spec_model.specs.Scratch.{defn_rows, no_bounds}
use Rattle.mesh_law_query.proofs.Bags.{counts_same}
use Rattle.mesh_house.specs.declared.world.Change.{Change}
use Rattle.mesh_house.specs.declared.world.Change.TheVariants.{RecordMarks, ReplaceRows}
use Rattle.mesh_house.specs.declared.world.World.{World}
use Rattle.mesh_house.specs.Step.{run, step}
use Rattle.mesh_house.specs.World.{version_of}
use Rattle.mesh_spec_changes.specs.due.Dues.{due, due_of}
use Rattle.mesh_spec_changes.specs.due.Marks.{marks}
use Rattle.mesh_spec_changes.specs.due.Parts.{Parts, is_among, object_of}
use Rattle.mesh_spec_changes.specs.due.Plans.{Planned, are_marks, is_marked, marks_of}
use Rattle.mesh_spec_changes.specs.Changes.{ascending, fill, fills, is_any, tables_for, tables_read}
use Rattle.mesh_spec_promise.specs.Sound.{Sound, table_rows}
use Rattle.mesh_spec_promise.proofs.Filled.{ascending_perm}
use Rattle.mesh_law_changes.proofs.Recording.{marks_recorded}
use Rattle.mesh_law_changes.proofs.Replacing.{rows_replaced}
use Rattle.mesh_law_changes.specs.along.Filled.{IsOfObject}
use Rattle.mesh_law_changes.specs.along.Ready.{HasTheRest, IsPlaced}
use Rattle.mesh_law_steps.proofs.fills.Kept.{marked_object, marked_version, of_object, of_object_then, replaced_keeps, replaced_rows}
use Rattle.mesh_law_steps.proofs.fills.Making.{IsBegun}
use Rattle.mesh_law_steps.proofs.fills.Twins.{marks_are, twin_own}
use Rattle.mesh_law_promise.proofs.Promoting.{IsModelMade}
use Rattle.mesh_law_promise.proofs.formed.Formed.{FormedAlong}

-- A model that is made is filled by some changes: the world stays sound along them, and they change nothing but its
-- object, which stays made.
pub record IsFormed (p : Planned) (z : Parts) (w : World) (list : List Change) : Type 0 where
  pub along : FormedAlong z w list
  pub made : IsModelMade (run w list).book p
  pub only : IsOfObject p.object w (run w list)

-- there are these changes where there are tables to fill from
pub mapped_from : {A B : Type 0} (f : A → B) (o : Option A) (y : B) → option_map f o ≡ Some y → (a : A) × (o ≡ Some a) × (f a ≡ y)
mapped_from f None y e = absurd (let clash : None ≡ Some y = e in cc)
mapped_from f (Some a) y e = (a, refl, (let same : f a ≡ y = cc in same))

no_marks : (o : Option (List ℤ)) → is_some o ≡ false → o ≡ None
no_marks None e = refl
no_marks (Some ms) e = absurd (let clash : true ≡ false = e in cc)

module _ (clock : Clock) (b : Book) (forgets : List Forget) (all : List Planned) (p : Planned) (before : World) (z : Parts) (w : World) (begun : IsBegun clock b forgets p before z w) (now : Shows clock w.book.moment)
    (placed : IsPlaced all w.book.snapshots p) (doubtful : (q : Forget) → object_of q ≡ p.object → z q ≡ true) where
  abbrev v : Version
  v = begun.version

  abbrev ms : List ℤ
  ms = marks clock p.closure

  abbrev marking : Change
  marking = RecordMarks p.object ms

  -- a part of the model isn't out of doubt
  never : (q : Forget) → object_of q ≡ p.object → z q ≡ false → ⊥
  never q of free = let clash : true ≡ false = sym (doubtful q of) ∙ free in cc

  -- nothing is due
  nothing_formed : (list : List Change) → due clock b forgets p ≡ [] → fills clock w all p (due clock b forgets p) ≡ Some list → IsFormed p z w list
  nothing_formed list none filled =
      let same : [] ≡ list = let both : Some [] ≡ Some list = sym (ap (fills clock w all p) none) ∙ filled in cc in
      subst (IsFormed p z w) same (record { along = begun.sound; made = (v, begun.known, begun.made); only = of_object p.object w w refl refl })

  -- marks are recorded of a table, which for a seed has the rows of its file
  module _ (u : World) (sound : Sound z u) (only : IsOfObject p.object w u) (known : version_of u.book p.object ≡ Some v)
      (seed : p.node.own.kind ≡ Seed → ForSome (table_rows u p.object) (λ rows. IsSameBag rows (defn_rows p.node.own.defn [] no_bounds))) where
    there : IsPlaced all u.book.snapshots p
    there = subst (λ (ss : List Snapshot). IsPlaced all ss p) (sym only.snapshots) placed

    moment : Shows clock u.book.moment
    moment = subst (Shows clock) (sym only.moment) now

    marked : Sound z (step u marking)
    marked =
        marks_recorded z z u sound p.object v known begun.made ms (λ q other free. free)
        (λ s known_s same is other shows. (sym (marks_are z u sound all p there s known_s same clock moment other shows), λ free. absurd (never (Marks p.object) refl free)))
        (λ s known_s same is rows at.
        let own = twin_own z u sound all p there s known_s same in
        subst (λ (o : Own). IsSameBag rows (defn_rows o.defn [] no_bounds)) (sym own) (seed (sym (ap (λ (o : Own). o.kind) own) ∙ is) rows at))

    marked_made : IsModelMade (step u marking).book p
    marked_made = (with_marks ms v, marked_version u p.object v known ms, begun.made)

    marked_only : IsOfObject p.object w (step u marking)
    marked_only = of_object_then p.object w u (step u marking) only (marked_object u p.object v known ms)

  -- a table's rows are replaced, and then marks are recorded
  module _ (rows : List (List Cell)) (whole : (time : List ℕ) (lookback : ℕ) → p.node.own.kind ≡ Incremental time lookback → ⊥) (unmarked : p.node.own.kind ≡ Seed → v.marks ≡ None)
      (seed : p.node.own.kind ≡ Seed → IsSameBag rows (defn_rows p.node.own.defn [] no_bounds)) where
    abbrev replacing : Change
    replacing = ReplaceRows p.object rows

    abbrev replaced_world : World
    replaced_world = step w replacing

    replaced : Sound z replaced_world
    replaced =
        rows_replaced z w begun.sound p.object rows
        (λ s known same time lookback is. whole time lookback (sym (ap (λ (o : Own). o.kind) (twin_own z w begun.sound all p placed s known same)) ∙ is))
        (λ s known same is t at free other shows equal. never (Marks p.object) refl free)
        (λ s known same is t at.
        let one : t ≡ v = let both : Some t ≡ Some v = sym at ∙ begun.known in cc in
        ap (λ (r : Version). r.marks) one ∙ unmarked (sym (ap (λ (o : Own). o.kind) (twin_own z w begun.sound all p placed s known same)) ∙ is))

    only_rows : IsOfObject p.object w replaced_world
    only_rows = of_object p.object w replaced_world (replaced_keeps w p.object rows).0 (replaced_keeps w p.object rows).1

    known_then : version_of replaced_world.book p.object ≡ Some v
    known_then = ap (λ (c : Book). version_of c p.object) (replaced_keeps w p.object rows).1 ∙ begun.known

    seed_then : p.node.own.kind ≡ Seed → ForSome (table_rows replaced_world p.object) (λ r. IsSameBag r (defn_rows p.node.own.defn [] no_bounds))
    seed_then is r at = subst (λ (t : List (List Cell)). IsSameBag t (defn_rows p.node.own.defn [] no_bounds)) (replaced_rows w p.object rows r at) (seed is)

    table_formed : IsFormed p z w (replacing ∷ marking ∷ [])
    table_formed = record {
      along = (begun.sound, (replaced, marked replaced_world replaced only_rows known_then seed_then));
      made = marked_made replaced_world replaced only_rows known_then seed_then;
      only = marked_only replaced_world replaced only_rows known_then seed_then;
    }

  -- a seed
  pub seed_formed : p.node.own.kind ≡ Seed → (list : List Change) → fills clock w all p (due clock b forgets p) ≡ Some list → IsFormed p z w list
  seed_formed is list filled = go (is_marked b p.object) (ap (due_of clock b forgets p) is)
    where
      rest : is_some v.marks ≡ not (is_any (due clock b forgets p))
      rest = subst (HasTheRest clock b forgets v p) is begun.rest

      go : (m : Bool) → due clock b forgets p ≡ cond m [] (Marks p.object ∷ []) → IsFormed p z w list
      go true none = nothing_formed list none filled
      go false some =
          let rows : List (List Cell) = ascending (defn_rows p.node.own.defn [] no_bounds) in
          let fills_it : fills clock w all p (due clock b forgets p) ≡ Some (ReplaceRows p.object rows ∷ marking ∷ []) =
          ap (fills clock w all p) some ∙ ap (λ (k : Kind). option_map (λ tables. flat_map (fill clock p k tables) (Marks p.object ∷ [])) (tables_for w all p k)) is in
          let same : ReplaceRows p.object rows ∷ marking ∷ [] ≡ list = let both : Some (ReplaceRows p.object rows ∷ marking ∷ []) ≡ Some list = sym fills_it ∙ filled in cc in
          subst (IsFormed p z w) same
          (table_formed rows (λ time lookback other. let clash : Seed ≡ Incremental time lookback = sym is ∙ other in cc)
          (λ other. no_marks v.marks (rest ∙ ap (λ (l : List Forget). not (is_any l)) some))
          (λ other row. sym (counts_same (ascending_perm (defn_rows p.node.own.defn [] no_bounds)) row)))

  -- a view
  pub view_formed : p.node.own.kind ≡ View → (list : List Change) → fills clock w all p (due clock b forgets p) ≡ Some list → IsFormed p z w list
  view_formed is list filled = go (is_marked b p.object) (ap (due_of clock b forgets p) is)
    where
      no_seed : p.node.own.kind ≡ Seed → ForSome (table_rows w p.object) (λ rows. IsSameBag rows (defn_rows p.node.own.defn [] no_bounds))
      no_seed other = absurd (let clash : View ≡ Seed = sym is ∙ other in cc)

      only : IsOfObject p.object w w
      only = of_object p.object w w refl refl

      go : (m : Bool) → due clock b forgets p ≡ cond m [] (Marks p.object ∷ []) → IsFormed p z w list
      go true none = nothing_formed list none filled
      go false some =
          let fills_it : fills clock w all p (due clock b forgets p) ≡ Some (marking ∷ []) =
          ap (fills clock w all p) some ∙ ap (λ (k : Kind). option_map (λ tables. flat_map (fill clock p k tables) (Marks p.object ∷ [])) (tables_for w all p k)) is in
          let same : marking ∷ [] ≡ list = let both : Some (marking ∷ []) ≡ Some list = sym fills_it ∙ filled in cc in
          subst (IsFormed p z w) same
          (record {
            along = (begun.sound, marked w begun.sound only begun.known no_seed);
            made = marked_made w begun.sound only begun.known no_seed;
            only = marked_only w begun.sound only begun.known no_seed;
          })

  -- a FULL model
  pub full_formed : p.node.own.kind ≡ Full → (list : List Change) → fills clock w all p (due clock b forgets p) ≡ Some list → IsFormed p z w list
  full_formed is list filled = go (are_marks (marks_of (version_of b p.object)) ms && not (is_among forgets (Marks p.object))) (ap (due_of clock b forgets p) is)
    where
      go : (m : Bool) → due clock b forgets p ≡ cond m [] (Marks p.object ∷ []) → IsFormed p z w list
      go true none = nothing_formed list none filled
      go false some =
          let filled_from : option_map (λ (tables : List Input). flat_map (fill clock p Full tables) (Marks p.object ∷ [])) (tables_read w all p) ≡ Some list =
          sym (ap (fills clock w all p) some ∙ ap (λ (k : Kind). option_map (λ tables. flat_map (fill clock p k tables) (Marks p.object ∷ [])) (tables_for w all p k)) is) ∙ filled in
          let read = mapped_from (λ (tables : List Input). flat_map (fill clock p Full tables) (Marks p.object ∷ [])) (tables_read w all p) list filled_from in
          subst (IsFormed p z w) read.2
          (table_formed (ascending (defn_rows p.node.own.defn read.0 no_bounds))
          (λ time lookback other. let clash : Full ≡ Incremental time lookback = sym is ∙ other in cc)
          (λ other. absurd (let clash : Full ≡ Seed = sym is ∙ other in cc))
          (λ other. absurd (let clash : Full ≡ Seed = sym is ∙ other in cc)))
