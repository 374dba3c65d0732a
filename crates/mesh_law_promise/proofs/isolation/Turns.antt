-- What holds at each exit while the models of a plan are made and filled one after another.
use Rattle.std.proofs.Common.{◌≡◌, Bool, true, false, inl, inr, List, [], ◌∷◌, ◌++◌, None, Some, refl, sym, ◌∙◌, ap, subst}
use Rattle.std.specs.List.{AllByRecursion}
use Rattle.std.specs.Ordering.{is_eq}
use Rattle.std.specs.declared.option.Option.{Option}
use Rattle.std.proofs.lemmas.List.{append_assoc}
use Rattle.mesh_base_values.specs.Names.{name_cmp}
use Rattle.mesh_base_values.specs.declared.values.Name.{Name}
use Rattle.mesh_base_values.proofs.Equals.{name_is as object_is}
use Rattle.mesh_base.specs.declared.forgets.Forget.{Forget}
use Rattle.mesh_base.specs.declared.jobs.Input.{Input}
use Rattle.mesh_house_book.specs.declared.book.Book.{Book}
use Rattle.mesh_spec_model.specs.Horizons.{Clock, Shows}
use Rattle.mesh_law_query.proofs.Has.{Has, Has_to}
use Rattle.mesh_law_query.proofs.Lists.{Each, Each_imp}
use Rattle.mesh_house.specs.Step.{run, step}
use Rattle.mesh_house.specs.declared.world.Change.{Change}
use Rattle.mesh_house.specs.declared.world.Change.TheVariants.{MakeTable, MakeView, RecordMarks, RecordRange, ReplaceRows, WriteRange}
use Rattle.mesh_house.specs.declared.world.World.{World}
use Rattle.mesh_house.proofs.Runs.{run-append}
use Rattle.mesh_spec_changes.specs.due.Dues.{due}
use Rattle.mesh_spec_changes.specs.due.Parts.{Parts}
use Rattle.mesh_spec_changes.specs.due.Plans.{Planned}
use Rattle.mesh_spec_changes.specs.Changes.{executes, fills, followed, parents_in}
use Rattle.mesh_spec_promise.specs.Current.{IsReadable}
use Rattle.mesh_spec_promise.specs.Histories.{left}
use Rattle.mesh_spec_promise.specs.Sound.{Sound}
use Rattle.mesh_law_changes.proofs.Recorded.{same_object}
use Rattle.mesh_law_changes.specs.along.Filled.{IsOneFilled, making_of}
use Rattle.mesh_law_changes.specs.along.Ready.{IsOpened, IsPlaced, IsReady}
use Rattle.mesh_law_promise.proofs.InTurn.{IsMidway, each_of, next, one, readable}
use Rattle.mesh_law_promise.proofs.isolation.Elsewhere.{IsElsewhere}
use Rattle.mesh_law_promise.proofs.isolation.Fills.{IsOfObject, fills_its, making_its}
use Rattle.mesh_law_promise.proofs.isolation.Holds.{HoldsAlong, holds_append, holds_each, holds_end}

-- changes of one object are none of another
its_elsewhere : (object name : Name) → (object ≡ name → ⊥) → (c : Change) → IsOfObject object c → IsElsewhere name c
its_elsewhere object name other (MakeTable o columns) h = λ e. other (sym h ∙ e)
its_elsewhere object name other (MakeView o columns own targets) h = λ e. other (sym h ∙ e)
its_elsewhere object name other (ReplaceRows o rows) h = λ e. other (sym h ∙ e)
its_elsewhere object name other (WriteRange o time start end rows) h = λ e. other (sym h ∙ e)
its_elsewhere object name other (RecordRange o start end) h = tt
its_elsewhere object name other (RecordMarks o marks) h = tt
its_elsewhere object name other c h = absurd h

module _ (clock : Clock) (b : Book) (forgets : List Forget) (all : List Planned) (K : World → Type 0) where
  -- A model of an object that is filled in its turn: nothing is made for it, and what fills it keeps what holds.
  pub record FillsAgain (p : Planned) (u : World) : Type 0 where
    pub makes_none : making_of clock b forgets all p ≡ []
    pub holds : (filled : List Change) → fills clock u all p (due clock b forgets p) ≡ Some filled → HoldsAlong K u filled

  module _ (object : Name) (elsewhere : (w : World) (c : Change) → IsElsewhere object c → K w → K (step w c)) where
    -- what makes a model
    abbrev making : Planned → List Change
    making p = making_of clock b forgets all p

    -- what makes a model keeps what holds, and so does what fills it then
    abbrev KeepsIts : Planned → World → List Change → Type 0
    KeepsIts p w made = HoldsAlong K w made × ((filled : List Change) → fills clock (run w made) all p (due clock b forgets p) ≡ Some filled → HoldsAlong K (run w made) filled)

    -- one model, of this object or of another
    module _ (p : Planned) (w : World) (k : K w) where
      along : (p.object ≡ object → ⊥) → (u : World) (list : List Change) → Each (IsOfObject p.object) list → K u → HoldsAlong K u list
      along other u list its held = holds_each K (IsElsewhere object) elsewhere u list (Each_imp (IsOfObject p.object) (IsElsewhere object) (its_elsewhere p.object object other) list its) held

      of_other : (p.object ≡ object → ⊥) → KeepsIts p w (making p)
      of_other other =
          let made : HoldsAlong K w (making p) = along other w (making p) (making_its clock b forgets all p) k in
          (made, λ filled e. along other (run w (making p)) filled (fills_its clock b forgets (run w (making p)) all p filled e) (holds_end K w (making p) made))

      of_this : FillsAgain p w → KeepsIts p w (making p)
      of_this a = subst (KeepsIts p w) (sym a.makes_none) (k, a.holds)

      of_one : (p.object ≡ object → FillsAgain p w) → KeepsIts p w (making p)
      of_one again = go (is_eq (name_cmp p.object object)) refl
        where
          go : (t : Bool) → is_eq (name_cmp p.object object) ≡ t → KeepsIts p w (making p)
          go true e = of_this (again (object_is p.object object e))
          go false e = of_other (λ is. let clash : true ≡ false = sym (same_object object) ∙ ap (λ (n : Name). is_eq (name_cmp n object)) (sym is) ∙ e in cc)

    -- some models, where those of the object are filled in any world in which it holds
    pub models_hold : (last : List Change) → ((w : World) → K w → HoldsAlong K w last) → (ps : List Planned)
        → ((p : Planned) → Has p ps → p.object ≡ object → (u : World) → K u → FillsAgain p u) → (w : World) → K w → HoldsAlong K w (executes clock b forgets all last ps w)
    models_hold last ends [] again w k = ends w k
    models_hold last ends (p ∷ ps) again w k =
        holds_append K w (making p) (followed (run w (making p)) (fills clock (run w (making p)) all p (due clock b forgets p)) (executes clock b forgets all last ps)) its.0
        (go (fills clock (run w (making p)) all p (due clock b forgets p)) refl (λ u held. models_hold last ends ps (λ q h. again q (inr h)) u held))
      where
        its : KeepsIts p w (making p)
        its = of_one p w k (λ is. again p (inl refl) is w k)

        go : (o : Option (List Change)) → fills clock (run w (making p)) all p (due clock b forgets p) ≡ o → ((u : World) → K u → HoldsAlong K u (executes clock b forgets all last ps u))
            → HoldsAlong K (run w (making p)) (followed (run w (making p)) o (executes clock b forgets all last ps))
        go None e more = holds_end K w (making p) its.0
        go (Some filled) e more =
            let first : HoldsAlong K (run w (making p)) filled = its.1 filled e in
            holds_append K (run w (making p)) filled (executes clock b forgets all last ps (run (run w (making p)) filled)) first
            (more (run (run w (making p)) filled) (holds_end K (run w (making p)) filled first))

    -- the models of a plan one after another, in sound worlds
    module _ (sources : List Input)
        (again : (p : Planned) → Has p all → p.object ≡ object → (x : Parts) (u : World) → Sound x u → Shows clock u.book.moment → IsPlaced all u.book.snapshots p →
        AllByRecursion (IsReadable clock x u.book) (parents_in all p) → u.sources ≡ sources → K u → FillsAgain p u)
        (last : List Change) (ends : (w : World) → K w → HoldsAlong K w last) where
      -- one model
      module _ (before : List Planned) (p : Planned) (ps : List Planned) (there : Has p all) (x : Parts) (w : World) (m : IsMidway clock b forgets all before (p ∷ ps) x w)
          (same : w.sources ≡ sources) (k : K w) where
        abbrev its : IsOneFilled clock b forgets all p x w
        its = one clock b forgets all before p ps x w m

        abbrev list : List Change
        list = making p ++ its.filled

        one_holds : HoldsAlong K w list
        one_holds =
            let kept = of_one p w k (λ is. again p there is x w m.sound m.moment (m.placed p (inl refl)) (readable clock b forgets all before p ps x w m) same k) in
            holds_append K w (making p) its.filled kept.0 (kept.1 its.filled its.fills_it)

        changes_are : executes clock b forgets all last (p ∷ ps) w ≡ list ++ executes clock b forgets all last ps (run w list)
        changes_are =
            ap (λ (o : Option (List Change)). making p ++ followed (run w (making p)) o (executes clock b forgets all last ps)) its.fills_it
            ∙ ap (λ (v : World). making p ++ (its.filled ++ executes clock b forgets all last ps v)) (sym (run-append w (making p) its.filled))
            ∙ sym (append_assoc (making p) its.filled (executes clock b forgets all last ps (run w list)))

      -- all of them
      holds_in_turn : (before ps : List Planned) → ((p : Planned) → Has p ps → Has p all) → (x : Parts) (w : World) → IsMidway clock b forgets all before ps x w → w.sources ≡ sources → K w
          → HoldsAlong K w (executes clock b forgets all last ps w)
      holds_in_turn before [] there x w m same k = ends w k
      holds_in_turn before (p ∷ ps) there x w m same k =
          let here = there p (inl refl) in
          let its = one clock b forgets all before p ps x w m in
          let list = making p ++ its.filled in
          let holds = one_holds before p ps here x w m same k in
          subst (HoldsAlong K w) (sym (changes_are before p ps here x w m same k))
          (holds_append K w list (executes clock b forgets all last ps (run w list)) holds
          (holds_in_turn (before ++ p ∷ []) ps (λ q h. there q (inr h)) (left list x) (run w list) (next clock b forgets all before p ps x w m) (its.only.sources ∙ same) (holds_end K w list holds)))

      -- all models of a plan that is ready
      pub ready_holds : (x : Parts) (w : World) → IsReady clock b forgets all x w → w.sources ≡ sources → K w → HoldsAlong K w (executes clock b forgets all last all w)
      ready_holds x w ready same k = holds_in_turn [] all (λ p h. h) x w midway same k
        where
          midway : IsMidway clock b forgets all [] all x w
          midway = record {
            sound = ready.sound;
            moment = ready.moment;
            behind = λ q i. absurd i;
            done = λ q i. absurd i;
            begun = tt;
            placed = each_of (IsPlaced all w.book.snapshots) all ready.placed;
            opened = each_of (IsOpened clock b forgets w.book) all ready.opened;
            ranked = ready.ranked;
            others = λ q i. absurd i;
            apart = ready.apart;
            covered = λ p i. ready.covered p (Has_to all p i);
          }
