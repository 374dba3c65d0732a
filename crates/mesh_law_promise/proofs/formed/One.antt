-- One model of a plan is made and filled, whatever the rows of its parents are.
use Rattle.std.proofs.Common.{◌≡◌, true, List, ◌++◌, refl, sym, subst}
use Rattle.std.specs.List.{AllByRecursion}
use Rattle.std.specs.declared.option.Option.{Option}
use Rattle.std.specs.declared.option.Option.TheVariants.{None, Some}
use Rattle.mesh_base_values.specs.declared.kinds.Kind.{Kind}
use Rattle.mesh_base_values.specs.declared.kinds.Kind.TheVariants.{Full, View, Seed, Incremental}
use Rattle.mesh_base.specs.declared.forgets.Forget.{Forget}
use Rattle.mesh_base.specs.declared.snapshots.Snapshot.{Snapshot}
use Rattle.mesh_house_book.specs.declared.book.Book.{Book}
use Rattle.mesh_spec_model.specs.Horizons.{Clock, Shows}
use Rattle.mesh_house.specs.declared.world.Change.{Change}
use Rattle.mesh_house.specs.declared.world.World.{World}
use Rattle.mesh_house.specs.Step.{run}
use Rattle.mesh_spec_changes.specs.due.Dues.{due}
use Rattle.mesh_spec_changes.specs.due.Parts.{Parts, object_of}
use Rattle.mesh_spec_changes.specs.due.Plans.{Planned}
use Rattle.mesh_spec_changes.specs.Changes.{fills, followed, parents_in}
use Rattle.mesh_spec_promise.specs.Sound.{Sound}
use Rattle.mesh_law_changes.specs.along.Filled.{IsOfObject, making_of}
use Rattle.mesh_law_changes.specs.along.Ready.{IsOpened, IsPlaced}
use Rattle.mesh_law_steps.proofs.fills.Kept.{of_object_then}
use Rattle.mesh_law_steps.proofs.fills.Making.{IsBegun}
use Rattle.mesh_law_promise.proofs.Promoting.{IsModelMade}
use Rattle.mesh_law_promise.proofs.formed.Filling.{IsFormed, full_formed, seed_formed, view_formed}
use Rattle.mesh_law_promise.proofs.formed.Formed.{FormedAlong, formed_append, formed_end}
use Rattle.mesh_law_promise.proofs.formed.Making.{IsThere, object_formed}
use Rattle.mesh_law_promise.proofs.formed.Units.{incremental_formed}

module _ (clock : Clock) (b : Book) (forgets : List Forget) (all : List Planned) (p : Planned) (z : Parts) (w : World) (sound : Sound z w) (now : Shows clock w.book.moment) (placed : IsPlaced all w.book.snapshots p)
    (opened : IsOpened clock b forgets w.book p) (parents : AllByRecursion (IsThere all w.book) (parents_in all p)) (doubtful : (q : Forget) → object_of q ≡ p.object → z q ≡ true) where
  abbrev making : List Change
  making = making_of clock b forgets all p

  abbrev u : World
  u = run w making

  abbrev filling : Option (List Change)
  filling = fills clock u all p (due clock b forgets p)

  along : FormedAlong z w making
  along = (object_formed clock b forgets all p z w sound placed opened parents).0

  begun : IsBegun clock b forgets p w z u
  begun = (object_formed clock b forgets all p z w sound placed opened parents).1

  moment : Shows clock u.book.moment
  moment = subst (Shows clock) (sym begun.only.moment) now

  there : IsPlaced all u.book.snapshots p
  there = subst (λ (ss : List Snapshot). IsPlaced all ss p) (sym begun.only.snapshots) placed

  -- what fills it, where no parent dangles
  by_kind : (kind : Kind) → p.node.own.kind ≡ kind → (list : List Change) → filling ≡ Some list → IsFormed p z u list
  by_kind (Incremental time lookback) is = incremental_formed clock b forgets all p w z u begun moment there doubtful time lookback is
  by_kind Full is = full_formed clock b forgets all p w z u begun moment there doubtful is
  by_kind View is = view_formed clock b forgets all p w z u begun moment there doubtful is
  by_kind Seed is = seed_formed clock b forgets all p w z u begun moment there doubtful is

  -- once it is made
  pub made_sound : Sound z u
  made_sound = begun.sound

  pub made_only : IsOfObject p.object w u
  made_only = begun.only

  -- and once it is filled
  pub filled_sound : (list : List Change) → filling ≡ Some list → Sound z (run u list) × IsModelMade (run u list).book p × IsOfObject p.object w (run u list)
  filled_sound list e = let f = by_kind p.node.own.kind refl list e in (formed_end z u list f.along, f.made, of_object_then p.object w u (run u list) begun.only f.only)

  -- The changes of the model, and what comes after them. Nothing does where it isn't filled.
  pub model_formed : (next : World → List Change) → ((v : World) → Sound z v → IsModelMade v.book p → IsOfObject p.object w v → FormedAlong z v (next v)) → FormedAlong z w (making ++ followed u filling next)
  model_formed next more = formed_append z w making (followed u filling next) along (go filling refl)
    where
      go : (o : Option (List Change)) → filling ≡ o → FormedAlong z u (followed u o next)
      go None e = begun.sound
      go (Some list) e =
          let f = by_kind p.node.own.kind refl list e in
          formed_append z u list (next (run u list)) f.along (more (run u list) (formed_end z u list f.along) f.made (of_object_then p.object w u (run u list) begun.only f.only))
