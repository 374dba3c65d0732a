-- The models of a plan are made and filled one after another, whatever the rows of any are, and then some last
-- changes come.
use Rattle.std.proofs.Common.{◌≡◌, true, ◌⊎◌, inl, inr, List, [], ◌∷◌, ◌++◌, Option, Some, refl, sym, ap, ◌∙◌, subst}
use Rattle.std.specs.List.{AllByRecursion}
use Rattle.std.proofs.lemmas.List.{append-nil, append_assoc}
use Rattle.mesh_base.specs.declared.forgets.Forget.{Forget}
use Rattle.mesh_base.specs.declared.snapshots.Snapshot.{Snapshot}
use Rattle.mesh_house_book.specs.declared.book.Book.{Book}
use Rattle.mesh_spec_model.specs.Horizons.{Clock, Shows}
use Rattle.mesh_law_query.proofs.Has.{Has, Has_cases, Has_from, Has_left, Has_right, Has_to}
use Rattle.mesh_house.specs.declared.world.Change.{Change}
use Rattle.mesh_house.specs.Step.{run}
use Rattle.mesh_house.specs.declared.world.World.{World}
use Rattle.mesh_house.proofs.Runs.{run-append}
use Rattle.mesh_spec_changes.specs.due.Dues.{due}
use Rattle.mesh_spec_changes.specs.due.Parts.{Parts, object_of}
use Rattle.mesh_spec_changes.specs.due.Plans.{Planned}
use Rattle.mesh_spec_changes.specs.Changes.{executes, fills, followed, parents_in}
use Rattle.mesh_spec_promise.specs.Sound.{Sound}
use Rattle.mesh_law_changes.specs.along.Filled.{IsOfObject, making_of}
use Rattle.mesh_law_changes.specs.along.Ready.{AreApart, AreRanked, IsOpened, IsPlaced}
use Rattle.mesh_law_promise.proofs.InTurn.{all_of, each_of}
use Rattle.mesh_law_promise.proofs.Promoting.{IsModelMade}
use Rattle.mesh_law_promise.proofs.formed.Formed.{FormedAlong}
use Rattle.mesh_law_promise.proofs.formed.Making.{IsThere}
use Rattle.mesh_law_promise.proofs.formed.One.{filled_sound, made_only, made_sound, model_formed}
use Rattle.mesh_law_promise.proofs.formed.Whole.{fills_there}

-- All models of a plan are made: the book has the snapshots and the environments that it had.
pub record AreFormed (all : List Planned) (base : World) (z : Parts) (w : World) : Type 0 where
  pub sound : Sound z w
  pub snapshots : w.book.snapshots ≡ base.book.snapshots
  pub environments : w.book.environments ≡ base.book.environments
  pub made : (p : Planned) → Has p all → IsModelMade w.book p

module _ (clock : Clock) (b : Book) (forgets : List Forget) (all : List Planned) (z : Parts) (base : World) (now : Shows clock base.book.moment) (placed : (p : Planned) → Has p all → IsPlaced all base.book.snapshots p)
    (doubtful : (p : Planned) → Has p all → (q : Forget) → object_of q ≡ p.object → z q ≡ true) (last : List Change) (ends : (v : World) → AreFormed all base z v → FormedAlong z v last) where
  -- the models so far are made, and the others wait
  record IsMidway (before ps : List Planned) (w : World) : Type 0 where
    sound : Sound z w
    moment : w.book.moment ≡ base.book.moment
    snapshots : w.book.snapshots ≡ base.book.snapshots
    environments : w.book.environments ≡ base.book.environments
    whole : before ++ ps ≡ all
    made : (q : Planned) → Has q before → IsModelMade w.book q
    opened : (q : Planned) → Has q ps → IsOpened clock b forgets w.book q
    ranked : AreRanked all before ps
    others : (q : Planned) → Has q before → (p : Planned) → Has p ps → ¬ (q.object ≡ p.object)
    apart : AreApart ps
    closed : (q : Planned) → Has q before → (r : Planned) → Has r (parents_in all q) → Has r before

  -- a model's turn
  module _ (before : List Planned) (p : Planned) (ps : List Planned) (w : World) (m : IsMidway before (p ∷ ps) w) where
    its : Has p all
    its = subst (Has p) m.whole (Has_right p before (p ∷ ps) (inl refl))

    there : (q : Planned) → Has q all → IsPlaced all w.book.snapshots q
    there q h = subst (λ (ss : List Snapshot). IsPlaced all ss q) (sym m.snapshots) (placed q h)

    stand : (q : Planned) → Has q (parents_in all p) → Has q before
    stand q i = Has_from before q (m.ranked.0 q (Has_to (parents_in all p) q i))

    parents : AllByRecursion (IsThere all w.book) (parents_in all p)
    parents =
        all_of (IsThere all w.book) (parents_in all p)
        (λ q i. let h : Has q before = stand q i in
        (there q (subst (Has q) m.whole (Has_left q before (p ∷ ps) h)), m.made q h))

    -- what fills it, in the world where it is made
    abbrev its_world : World
    its_world = run w (making_of clock b forgets all p)

    abbrev parts : List Forget
    parts = due clock b forgets p

    made_so : Sound z its_world
    made_so = made_sound clock b forgets all p z w m.sound (subst (Shows clock) (sym m.moment) now) (there p its) (m.opened p (inl refl)) parents (doubtful p its)

    only_so : IsOfObject p.object w its_world
    only_so = made_only clock b forgets all p z w m.sound (subst (Shows clock) (sym m.moment) now) (there p its) (m.opened p (inl refl)) parents (doubtful p its)

    filling : (list : List Change) × (fills clock its_world all p parts ≡ Some list)
    filling =
        fills_there all z its_world made_so before m.closed (λ q h. subst (λ (ss : List Snapshot). IsPlaced all ss q) (sym only_so.snapshots) (there q (subst (Has q) m.whole (Has_left q before (p ∷ ps) h))))
        (λ q h. let (v, known, is) = m.made q h in (v, only_so.versions q.object (m.others q h p (inl refl)) ∙ known, is)) clock p stand parts

    filled_so : Sound z (run its_world filling.0) × IsModelMade (run its_world filling.0).book p × IsOfObject p.object w (run its_world filling.0)
    filled_so = filled_sound clock b forgets all p z w m.sound (subst (Shows clock) (sym m.moment) now) (there p its) (m.opened p (inl refl)) parents (doubtful p its) filling.0 filling.1

    -- another model's version stays
    module _ (v : World) (sound : Sound z v) (made : IsModelMade v.book p) (only : IsOfObject p.object w v) where
      made_on : (q : Planned) → ¬ (q.object ≡ p.object) → IsModelMade w.book q → IsModelMade v.book q
      made_on q other h = (h.0, only.versions q.object other ∙ h.1, h.2)

      opened_on : (q : Planned) → ¬ (q.object ≡ p.object) → IsOpened clock b forgets w.book q → IsOpened clock b forgets v.book q
      opened_on q other h = record { version = h.version; known = only.versions q.object other ∙ h.known; made = h.made; rest = h.rest }

      its_own : (q : Planned) → Has q ps → ¬ (p.object ≡ q.object)
      its_own q i = each_of (λ (r : Planned). ¬ (p.object ≡ r.object)) ps m.apart.0 q i

      made_then : (q : Planned) → Has q before ⊎ Has q (p ∷ []) → IsModelMade v.book q
      made_then q (inl i) = made_on q (m.others q i p (inl refl)) (m.made q i)
      made_then q (inr (inl e)) = subst (IsModelMade v.book) e made
      made_then q (inr (inr i)) = absurd i

      others_then : (q : Planned) → Has q before ⊎ Has q (p ∷ []) → (r : Planned) → Has r ps → ¬ (q.object ≡ r.object)
      others_then q (inl i) r j = m.others q i r (inr j)
      others_then q (inr (inl e)) r j = subst (λ (s : Planned). ¬ (s.object ≡ r.object)) e (its_own r j)
      others_then q (inr (inr i)) r j = absurd i

      closed_then : (q : Planned) → Has q before ⊎ Has q (p ∷ []) → (r : Planned) → Has r (parents_in all q) → Has r (before ++ p ∷ [])
      closed_then q (inl i) r j = Has_left r before (p ∷ []) (m.closed q i r j)
      closed_then q (inr (inl e)) r j = Has_left r before (p ∷ []) (stand r (subst (λ (s : Planned). Has r (parents_in all s)) (sym e) j))
      closed_then q (inr (inr i)) r j = absurd i

      next : IsMidway (before ++ p ∷ []) ps v
      next = record {
        sound = sound;
        moment = only.moment ∙ m.moment;
        snapshots = only.snapshots ∙ m.snapshots;
        environments = only.environments ∙ m.environments;
        whole = append_assoc before (p ∷ []) ps ∙ m.whole;
        made = λ q i. made_then q (Has_cases q before (p ∷ []) i);
        opened = λ q i. opened_on q (λ e. its_own q i (sym e)) (m.opened q (inr i));
        ranked = m.ranked.1;
        others = λ q i. others_then q (Has_cases q before (p ∷ []) i);
        apart = m.apart.1;
        closed = λ q i. closed_then q (Has_cases q before (p ∷ []) i);
      }

  -- no model waits any more
  all_made : (before : List Planned) (w : World) → IsMidway before [] w → AreFormed all base z w
  all_made before w m = record {
    sound = m.sound;
    snapshots = m.snapshots;
    environments = m.environments;
    made = λ q i. m.made q (subst (Has q) (sym m.whole ∙ append-nil before) i);
  }

  turn : (before ps : List Planned) (w : World) → IsMidway before ps w → FormedAlong z w (executes clock b forgets all last ps w)
  turn before [] w m = ends w (all_made before w m)
  turn before (p ∷ ps) w m =
      model_formed clock b forgets all p z w m.sound (subst (Shows clock) (sym m.moment) now) (there before p ps w m p (its before p ps w m)) (m.opened p (inl refl)) (parents before p ps w m) (doubtful p (its before p ps w m))
      (executes clock b forgets all last ps) (λ v sound made only. turn (before ++ p ∷ []) ps v (next before p ps w m v sound made only))

  -- nothing dangles: whatever comes last does come
  whole_from : (before ps : List Planned) (w : World) → IsMidway before ps w → (made : List Change) × ((end : List Change) → executes clock b forgets all end ps w ≡ made ++ end)
  whole_from before [] w m = ([], λ end. refl)
  whole_from before (p ∷ ps) w m =
      let (list, is) = filling before p ps w m in
      let (sound, made, only) = filled_so before p ps w m in
      let (more, ends_so) = whole_from (before ++ p ∷ []) ps (run (its_world before p ps w m) list) (next before p ps w m (run (its_world before p ps w m) list) sound made only) in
      let mine : List Change = making_of clock b forgets all p in (
        mine ++ (list ++ more),
        λ end. ap (λ (o : Option (List Change)). mine ++ followed (its_world before p ps w m) o (executes clock b forgets all end ps)) is
            ∙ ap (λ (l : List Change). mine ++ (list ++ l)) (ends_so end)
            ∙ ap (λ (l : List Change). mine ++ l) (sym (append_assoc list more end))
            ∙ sym (append_assoc mine (list ++ more) end),
      )

  -- the world that they are made in, where nothing comes last
  state_from : (before ps : List Planned) (w : World) → IsMidway before ps w → AreFormed all base z (run w (executes clock b forgets all [] ps w))
  state_from before [] w m = all_made before w m
  state_from before (p ∷ ps) w m =
      let (list, is) = filling before p ps w m in
      let (sound, made, only) = filled_so before p ps w m in
      let mine : List Change = making_of clock b forgets all p in
      let u : World = its_world before p ps w m in
      let v : World = run u list in
      let more : List Change = executes clock b forgets all [] ps v in
      subst (AreFormed all base z)
      (sym (ap (λ (o : Option (List Change)). run w (mine ++ followed u o (executes clock b forgets all [] ps))) is ∙ run-append w mine (list ++ more) ∙ run-append u list more))
      (state_from (before ++ p ∷ []) ps v (next before p ps w m v sound made only))

  begun_so : Sound z base → ((p : Planned) → Has p all → IsOpened clock b forgets base.book p) → AreApart all → AreRanked all [] all → IsMidway [] all base
  begun_so sound opened apart ranked = record {
    sound = sound;
    moment = refl;
    snapshots = refl;
    environments = refl;
    whole = refl;
    made = λ q i. absurd i;
    opened = opened;
    ranked = ranked;
    others = λ q i. absurd i;
    apart = apart;
    closed = λ q i. absurd i;
  }

  -- all models of a plan, and then the last changes
  pub models_formed : Sound z base → ((p : Planned) → Has p all → IsOpened clock b forgets base.book p) → AreApart all → AreRanked all [] all → FormedAlong z base (executes clock b forgets all last all base)
  models_formed sound opened apart ranked = turn [] all base (begun_so sound opened apart ranked)

  pub models_whole : Sound z base → ((p : Planned) → Has p all → IsOpened clock b forgets base.book p) → AreApart all → AreRanked all [] all
      → (made : List Change) × ((end : List Change) → executes clock b forgets all end all base ≡ made ++ end)
  models_whole sound opened apart ranked = whole_from [] all base (begun_so sound opened apart ranked)

  pub models_state : Sound z base → ((p : Planned) → Has p all → IsOpened clock b forgets base.book p) → AreApart all → AreRanked all [] all
      → AreFormed all base z (run base (executes clock b forgets all [] all base))
  models_state sound opened apart ranked = state_from [] all base (begun_so sound opened apart ranked)
