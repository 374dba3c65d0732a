-- A planned model is made and filled, and then it is done.
use Rattle.std.proofs.Common.{◌≡◌, false, List, ◌++◌, refl, sym, subst}
use Rattle.std.specs.List.{AllByRecursion}
use Rattle.mesh_base_values.specs.declared.kinds.Kind.{Kind}
use Rattle.mesh_base_values.specs.declared.kinds.Kind.TheVariants.{Full, View, Seed, Incremental}
use Rattle.mesh_base.specs.declared.forgets.Forget.{Forget}
use Rattle.mesh_base.specs.declared.snapshots.Snapshot.{Snapshot}
use Rattle.mesh_house_book.specs.declared.book.Book.{Book}
use Rattle.mesh_spec_model.specs.Horizons.{Clock, Shows}
use Rattle.mesh_law_query.proofs.Has.{Has, Has_map}
use Rattle.mesh_house.specs.declared.world.Change.{Change}
use Rattle.mesh_house.specs.declared.world.World.{World}
use Rattle.mesh_house.specs.Step.{run}
use Rattle.mesh_house.proofs.Runs.{run-append}
use Rattle.mesh_spec_changes.specs.due.Dues.{due}
use Rattle.mesh_spec_changes.specs.due.Parts.{Parts, is_among, object_of}
use Rattle.mesh_spec_changes.specs.due.Plans.{Planned}
use Rattle.mesh_spec_changes.specs.Changes.{parents_in, planned_ref}
use Rattle.mesh_spec_promise.specs.Current.{IsDone, IsReadable}
use Rattle.mesh_spec_promise.specs.Histories.{left}
use Rattle.mesh_spec_promise.specs.Sound.{Sound}
use Rattle.mesh_law_changes.specs.along.Along.{StaysAlong}
use Rattle.mesh_law_changes.specs.along.Filled.{IsOfObject, IsOneFilled, making_of}
use Rattle.mesh_law_changes.specs.along.Ready.{IsOpened, IsPlaced}
use Rattle.mesh_law_changes.proofs.along.Along.{along_append, left_both, left_fewer}
use Rattle.mesh_law_steps.proofs.fills.Done.{IsThenFilled}
use Rattle.mesh_law_steps.proofs.fills.Kept.{of_object_then}
use Rattle.mesh_law_steps.proofs.fills.Making.{IsBegun, model_made}
use Rattle.mesh_law_steps.proofs.fills.Readable.{parents_kept}
use Rattle.mesh_law_steps.proofs.fills.Twins.{planned_known}
use Rattle.mesh_law_steps.proofs.fills.Units.{incremental_filled}
use Rattle.mesh_law_steps.proofs.fills.Whole.{full_filled, seed_filled, view_filled}

module _ (clock : Clock) (b : Book) (forgets : List Forget) (all : List Planned) (p : Planned) (x : Parts) (w : World) (sound : Sound x w) (now : Shows clock w.book.moment) (placed : IsPlaced all w.book.snapshots p)
    (opened : IsOpened clock b forgets w.book p) (readable : AllByRecursion (IsReadable clock x w.book) (parents_in all p)) (covered : (q : Forget) → object_of q ≡ p.object → is_among (due clock b forgets p) q ≡ false → x q ≡ false) where
  abbrev making : List Change
  making = making_of clock b forgets all p

  abbrev y : Parts
  y = left making x

  abbrev u : World
  u = run w making

  along : StaysAlong x w making
  along = (model_made clock b forgets all p x w sound placed opened readable).0

  begun : IsBegun clock b forgets p w y u
  begun = (model_made clock b forgets all p x w sound placed opened readable).1

  moment : Shows clock u.book.moment
  moment = subst (Shows clock) (sym begun.only.moment) now

  there : IsPlaced all u.book.snapshots p
  there = subst (λ (ss : List Snapshot). IsPlaced all ss p) (sym begun.only.snapshots) placed

  covered_then : (q : Forget) → object_of q ≡ p.object → is_among (due clock b forgets p) q ≡ false → y q ≡ false
  covered_then q of rested = left_fewer making x q (covered q of rested)

  readable_then : AllByRecursion (IsReadable clock y u.book) (parents_in all p)
  readable_then =
      parents_kept clock x y w.book u.book sound.book p.object begun.only.snapshots begun.only.versions (left_fewer making x) placed.snapshot (planned_known x w sound all p placed) placed.object (parents_in all p)
      (λ q h. subst (Has (planned_ref q)) (sym placed.parents) (Has_map planned_ref (parents_in all p) q (planned_ref q) h refl)) readable

  by_kind : (kind : Kind) → p.node.own.kind ≡ kind → IsThenFilled clock b forgets all p y u
  by_kind (Incremental time lookback) is = incremental_filled clock b forgets all p w y u begun moment there covered_then readable_then time lookback is
  by_kind Full is = full_filled clock b forgets all p w y u begun moment there covered_then readable_then is
  by_kind View is = view_filled clock b forgets all p w y u begun moment there covered_then is
  by_kind Seed is = seed_filled clock b forgets all p w y u begun moment there covered_then is

  -- the whole list
  module _ (f : IsThenFilled clock b forgets all p y u) where
    world_is : run w (making ++ f.filled) ≡ run u f.filled
    world_is = run-append w making f.filled

    done_at_end : IsDone clock (left (making ++ f.filled) x) (run w (making ++ f.filled)).book p
    done_at_end =
        subst (λ (z : Parts). IsDone clock z (run w (making ++ f.filled)).book p) (sym (left_both making f.filled x))
        (subst (λ (v : World). IsDone clock (left f.filled y) v.book p) (sym world_is) f.done)

    only_at_end : IsOfObject p.object w (run w (making ++ f.filled))
    only_at_end = subst (IsOfObject p.object w) (sym world_is) (of_object_then p.object w u (run u f.filled) begun.only f.only)

    put_together : IsOneFilled clock b forgets all p x w
    put_together = record {
      filled = f.filled;
      fills_it = f.fills_it;
      along = along_append x w making f.filled along f.along;
      done = done_at_end;
      only = only_at_end;
    }

  pub one_filled : IsOneFilled clock b forgets all p x w
  one_filled = put_together (by_kind p.node.own.kind refl)
