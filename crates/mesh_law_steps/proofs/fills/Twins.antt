-- What all snapshots with a planned model's object share with it, at any clock that shows the moment.
use Rattle.std.proofs.Common.{◌≡◌, ℤ, ◌≤ℤ◌, List, [], ◌∷◌, refl, sym, ◌∙◌, ap, subst, arith}
use Rattle.std.proofs.lemmas.Int.{ints}
use Rattle.std.proofs.lemmas.List.Elements.{All-nil, All-cons}
use Rattle.std.specs.List.{All}
use Rattle.mesh_base_values.specs.declared.kinds.Kind.{Kind}
use Rattle.mesh_base_values.specs.declared.times.Bounds.{Bounds}
use Rattle.mesh_base.specs.declared.definitions.Own.{Own}
use Rattle.mesh_base.specs.declared.jobs.Input.{Input}
use Rattle.mesh_base.specs.declared.snapshots.Snapshot.{Snapshot}
use Rattle.mesh_spec_model.specs.Closures.{Closure, Model, own_of, standing}
use Rattle.mesh_spec_model.specs.Horizons.{Clock, HasCrons, Shows, schedule, units_from}
use Rattle.mesh_spec_model.specs.Scratch.{from_scratch, piece}
use Rattle.mesh_spec_model.proofs.Moments.{one_horizon}
use Rattle.mesh_law_query.proofs.Lists.{Each}
use Rattle.mesh_house.specs.declared.world.World.{World}
use Rattle.mesh_spec_changes.specs.listed.Closing.{closing, IsSnapshot}
use Rattle.mesh_spec_changes.proofs.listed.Books.{is_its_own}
use Rattle.mesh_spec_changes.specs.reuse.Cores.{core, IsTwin}
use Rattle.mesh_law_reuse.proofs.Sharing.{same_pieces, same_rows, same_schedules, twin_marks}
use Rattle.mesh_spec_changes.specs.due.Marks.{marks}
use Rattle.mesh_spec_changes.specs.due.Parts.{Parts}
use Rattle.mesh_spec_changes.specs.due.Plans.{Planned}
use Rattle.mesh_spec_changes.proofs.due.Later.{marks_stay}
use Rattle.mesh_spec_changes.specs.Changes.{planned_ref}
use Rattle.mesh_spec_promise.specs.Sound.{Sound}
use Rattle.mesh_spec_promise.proofs.Crons.{HasCron, closed_crons, one_list, one_piece}
use Rattle.mesh_spec_promise.proofs.Tables.{closed_own}
use Rattle.mesh_law_changes.specs.along.Ready.{IsPlaced}

-- twins have one definition of their own
core_own : (c : Closure) → own_of (core c) ≡ own_of c
core_own (Model own parents) = refl

twin_owns : (a c : Closure) → IsTwin a c → own_of a ≡ own_of c
twin_owns a c e = sym (core_own a) ∙ ap own_of e ∙ core_own c

all_of : {X : Type 0} (P : X → Type 0) (xs : List X) → Each P xs → All P xs
all_of P [] h = All-nil P
all_of P (x ∷ xs) h = All-cons P x xs h.0 (all_of P xs h.1)

own_closing : (all : List Snapshot) (s : Snapshot) → own_of (closing all s) ≡ s.own
own_closing all s = ap own_of (closed_own all s.rank s).1

-- two clocks that show one moment
module _ (t : ℤ) (clock other : Clock) (now : Shows clock t) (shows : Shows other t) (c : Closure) (crons : Each HasCron (standing c)) where
  have_crons : HasCrons c
  have_crons = all_of HasCron (standing c) crons

  one_schedule : schedule other c ≡ schedule clock c
  one_schedule = ap (units_from (own_of c).start (own_of c).unit) (one_horizon t other clock shows now c have_crons)

  itself : t ≤ℤ t
  itself = omega (arith, ints)

  same_marks : marks other c ≡ marks clock c
  same_marks = marks_stay t t t other clock other itself itself shows now shows c have_crons refl

module _ (x : Parts) (w : World) (sound : Sound x w) (all : List Planned) (p : Planned) (placed : IsPlaced all w.book.snapshots p) where
  -- the snapshot of a planned model
  pub planned_known : IsSnapshot w.book.snapshots placed.snapshot
  planned_known = is_its_own w.book.snapshots (planned_ref p) placed.snapshot placed.known

  own_planned : own_of p.closure ≡ p.node.own
  own_planned = ap own_of (sym placed.closure) ∙ own_closing w.book.snapshots placed.snapshot ∙ placed.own

  module _ (s : Snapshot) (known : IsSnapshot w.book.snapshots s) (same : s.object ≡ p.object) where
    twin : IsTwin (closing w.book.snapshots s) p.closure
    twin = subst (IsTwin (closing w.book.snapshots s)) placed.closure (sound.book.shared s placed.snapshot known planned_known (same ∙ sym placed.object)).1

    crons : Each HasCron (standing (closing w.book.snapshots s))
    crons = closed_crons w.book.snapshots sound.typed.crons s.rank s known

    pub twin_own : s.own ≡ p.node.own
    twin_own = sym (own_closing w.book.snapshots s) ∙ twin_owns (closing w.book.snapshots s) p.closure twin ∙ own_planned

    pub twin_kind : (kind : Kind) → p.node.own.kind ≡ kind → s.own.kind ≡ kind
    twin_kind kind is = ap (λ (o : Own). o.kind) twin_own ∙ is

    module _ (clock : Clock) (now : Shows clock w.book.moment) (other : Clock) (shows : Shows other w.book.moment) where
      pub marks_are : marks other (closing w.book.snapshots s) ≡ marks clock p.closure
      marks_are = same_marks w.book.moment clock other now shows (closing w.book.snapshots s) crons ∙ twin_marks (closing w.book.snapshots s) p.closure twin clock

      pub schedule_is : schedule other (closing w.book.snapshots s) ≡ schedule clock p.closure
      schedule_is = one_schedule w.book.moment clock other now shows (closing w.book.snapshots s) crons ∙ same_schedules (closing w.book.snapshots s) p.closure twin clock

      pub piece_is : (sources : List Input) (u : Bounds) → piece sources other (closing w.book.snapshots s) u ≡ piece sources clock p.closure u
      piece_is sources u = one_piece w.book.moment other clock shows now sources (closing w.book.snapshots s) crons u ∙ same_pieces (closing w.book.snapshots s) p.closure twin sources clock u

      pub rows_are : (sources : List Input) → from_scratch sources other (closing w.book.snapshots s) ≡ from_scratch sources clock p.closure
      rows_are sources = one_list w.book.moment other clock shows now sources (closing w.book.snapshots s) crons ∙ same_rows (closing w.book.snapshots s) p.closure twin sources clock
