-- What is recorded of a table and isn't in doubt keeps its rows at each exit of a command that settles.
use Rattle.std.proofs.Common.{◌≡◌, ℕ, true, List, [], ◌++◌, Some, refl, subst}
use Rattle.std.specs.List.{AllByRecursion, filter}
use Rattle.mesh_list.proofs.Ascends.{and_left, and_right}
use Rattle.mesh_base_values.specs.Bag.{IsSameBag}
use Rattle.mesh_base_values.specs.declared.kinds.Kind.{Kind}
use Rattle.mesh_base_values.specs.declared.kinds.Kind.TheVariants.{Full, View, Seed, Incremental}
use Rattle.mesh_base_values.specs.declared.values.Cell.{Cell}
use Rattle.mesh_base.specs.declared.definitions.Own.{Own}
use Rattle.mesh_base.specs.declared.forgets.Forget.{Forget}
use Rattle.mesh_base.specs.declared.snapshots.Snapshot.{Snapshot}
use Rattle.mesh_house_book.specs.WellFormed.{is_moment}
use Rattle.mesh_house_book.specs.declared.versions.Version.{Version}
use Rattle.mesh_spec_model.specs.Closures.{Closure}
use Rattle.mesh_spec_model.specs.Horizons.{Clock, Shows}
use Rattle.mesh_spec_model.specs.Scratch.{defn_rows, from_scratch, is_of_unit, no_bounds, piece}
use Rattle.mesh_house.specs.Step.{run, step}
use Rattle.mesh_house.specs.World.{version_of}
use Rattle.mesh_house.specs.declared.world.Change.{Change}
use Rattle.mesh_house.specs.declared.world.Change.TheVariants.{Moment}
use Rattle.mesh_house.specs.declared.world.World.{World}
use Rattle.mesh_spec_changes.specs.listed.Closing.{IsSnapshot, closing}
use Rattle.mesh_spec_changes.specs.reuse.Cores.{IsTwin}
use Rattle.mesh_spec_changes.specs.due.Parts.{Parts, either}
use Rattle.mesh_spec_changes.specs.due.Plans.{Planned}
use Rattle.mesh_spec_changes.specs.Changes.{Plan, applies, parents_in, runs}
use Rattle.mesh_spec_changes.specs.Commands.{Apply, Command, RunAll, changes, is_not_behind, is_present}
use Rattle.mesh_spec_promise.specs.Current.{IsReadable}
use Rattle.mesh_spec_promise.specs.Histories.{IsMet, Settles, met}
use Rattle.mesh_spec_promise.specs.Moved.{moved}
use Rattle.mesh_spec_promise.specs.Sound.{IsTableSound, Sound, table_rows}
use Rattle.mesh_law_changes.specs.along.Ready.{IsPlaced}
use Rattle.mesh_law_promise.proofs.Applying.{raised_now, raised_sound}
use Rattle.mesh_law_promise.proofs.Promise.{shows_raised}
use Rattle.mesh_law_promise.specs.isolation.Isolation.{DropsNone, HasStill, KeepsRows}
use Rattle.mesh_law_promise.proofs.isolation.Elsewhere.{IsElsewhere}
use Rattle.mesh_law_promise.proofs.isolation.Holds.{HoldsAlong}
use Rattle.mesh_law_promise.proofs.isolation.Models.{placed_own, seed_again, unit_again, whole_again}
use Rattle.mesh_law_promise.proofs.isolation.Plans.{apply_holds, run_holds}
use Rattle.mesh_law_promise.proofs.isolation.Rows.{Keeps, keeps_elsewhere}
use Rattle.mesh_law_promise.proofs.isolation.Tables.{command_keeps, kept, seed_made, unit_later, unit_made, whole_made}
use Rattle.mesh_law_promise.proofs.isolation.Turns.{FillsAgain}

module _ (x : Parts) (w : World) (sound : Sound x w) (before after : Clock) (s : Snapshot) (known : IsSnapshot w.book.snapshots s) (v : Version) (at : version_of w.book s.object ≡ Some v) where
  abbrev c : Closure
  c = closing w.book.snapshots s

  -- what of a table holds along the changes of a command, where it holds whenever a model of the table is filled again
  abbrev Refills : (World → Type 0) → Type 0
  Refills K = (forgets : List Forget) (all : List Planned) (p : Planned) → p.object ≡ s.object → IsTwin (closing w.book.snapshots s) p.closure
      → (z : Parts) (u : World) → Sound z u → Shows after u.book.moment → IsPlaced all u.book.snapshots p
      → AllByRecursion (IsReadable after z u.book) (parents_in all p) → u.sources ≡ w.sources → K u → FillsAgain after w.book forgets all K p u

  module _ (plan : Plan) (ahead : is_not_behind plan.moment w.book ≡ true) (real : is_moment plan.moment ≡ true) (was : Shows before w.book.moment) (is : Shows after plan.moment)
      (list : List Change)
      (holds : (K : World → Type 0) → ((u : World) (c : Change) → IsElsewhere s.object c → K u → K (step u c)) → Refills K → K w → HoldsAlong K w list)
      (done rest : List Change) (split : list ≡ done ++ rest) where
    abbrev doubts : Parts
    doubts = either x (moved w before after w.sources)

    abbrev raised : World
    raised = step w (Moment plan.moment)

    table : (kind : Kind) → s.own.kind ≡ kind → IsTableSound after doubts raised s v kind
    table kind e =
        subst (IsTableSound after doubts raised s v) e
        ((raised_sound x w plan before after sound ahead real was is).tables after (raised_now x w plan before after sound ahead real was is) s known v at)

    abbrev KeepsPart : (Own → List (List Cell) → List (List Cell)) → List (List Cell) → World → Type 0
    KeepsPart part fixed = Keeps part fixed s.object s.own

    -- some rows that a part of it has
    kept_along : (part : Own → List (List Cell) → List (List Cell)) (fixed : List (List Cell)) → v.made ≡ true → Refills (KeepsPart part fixed)
        → (rows : List (List Cell)) → table_rows w s.object ≡ Some rows → IsSameBag (part s.own rows) fixed → HasStill (table_rows (run w done) s.object) (part s.own) rows
    kept_along part fixed made refills =
        kept x w sound before after s known v at part fixed made list (holds (KeepsPart part fixed) (keeps_elsewhere part fixed s.object s.own) refills) done rest split

    -- a recorded unit
    unit_kept : (time : List ℕ) (lookback : ℕ) → s.own.kind ≡ Incremental time lookback → KeepsRows before after doubts w (run w done) s v (Incremental time lookback)
    unit_kept time lookback e d listed held free rows there =
        let made = unit_made x w sound before after s known v at d listed held in
        let later = unit_later x w sound before after s known v at plan ahead was is d listed in
        let fixed : List (List Cell) = piece w.sources after c d in
        let scratch : IsSameBag (filter (is_of_unit s.own d) rows) fixed = (table (Incremental time lookback) e).pieces made d later held free rows there in
        kept_along (λ o. filter (is_of_unit o d)) fixed made
        (λ forgets all p its twin z u so now placed readable same k.
        unit_again after w.book forgets all w.book.snapshots s v at made p its twin (placed_own all w.book.snapshots s p twin u.book.snapshots placed) u
        w.sources z so now placed readable same time lookback e d later k)
        rows there scratch

    -- a FULL table
    whole_kept : s.own.kind ≡ Full → KeepsRows before after doubts w (run w done) s v Full
    whole_kept e marked free rows there =
        let made = whole_made x w sound before after s known v at marked in
        let fixed : List (List Cell) = from_scratch w.sources after c in
        let scratch : IsSameBag rows fixed = (table Full e).rows marked free rows there in
        kept_along (λ o rs. rs) fixed made
        (λ forgets all p its twin z u so now placed readable same k.
        whole_again after w.book forgets all w.book.snapshots s v at made p its twin (placed_own all w.book.snapshots s p twin u.book.snapshots placed) u w.sources z so now placed readable same e k)
        rows there scratch

    -- a seed's
    seed_kept : s.own.kind ≡ Seed → KeepsRows before after doubts w (run w done) s v Seed
    seed_kept e marked rows there =
        let made = seed_made x w sound before after s known v at marked in
        let fixed : List (List Cell) = defn_rows s.own.defn [] no_bounds in
        let scratch : IsSameBag rows fixed = (table Seed e) marked rows there in
        kept_along (λ o rs. rs) fixed made
        (λ forgets all p its twin z u so now placed readable same k.
        seed_again after w.book forgets all w.book.snapshots s v at made p its twin (placed_own all w.book.snapshots s p twin u.book.snapshots placed) u e marked fixed k)
        rows there scratch

    planned_kept : (kind : Kind) → s.own.kind ≡ kind → KeepsRows before after doubts w (run w done) s v kind
    planned_kept (Incremental time lookback) e = unit_kept time lookback e
    planned_kept Full e = whole_kept e
    planned_kept Seed e = seed_kept e
    planned_kept View e = tt

pub recorded_kept : (x : Parts) (w : World) (c : Command) (before after : Clock) → IsMet before after w c → Sound x w → Settles after c w (met before after c w x) → DropsNone c
    → (made rest : List Change) → changes after c w ≡ made ++ rest
    → (s : Snapshot) → IsSnapshot w.book.snapshots s → (v : Version) → version_of w.book s.object ≡ Some v → KeepsRows before after (met before after c w x) w (run w made) s v s.own.kind
recorded_kept x w c before after m sound settled none made rest split s known v at =
    command_keeps x w sound before after s known v at (λ o. met before after o w x) (λ o. Settles after o w (met before after o w x))
    (λ plan asked settles allowed done more is.
    let ahead = and_right (is_present w.book) _ allowed in
    let shown = shows_raised before after w (Apply plan) asked allowed in
    planned_kept x w sound before after s known v at plan ahead asked.asked.moment asked.was shown (applies after plan w)
    (λ K elsewhere refills k. apply_holds x w sound before after s known K elsewhere refills plan ahead asked.asked.moment asked.was shown settles (and_left (is_present w.book) _ allowed) asked.asked k)
    done more is s.own.kind refl)
    (λ plan asked settles allowed done more is.
    let ahead = and_left (is_not_behind plan.moment w.book) _ (and_right (is_present w.book) _ allowed) in
    let shown = shows_raised before after w (RunAll plan) asked allowed in
    planned_kept x w sound before after s known v at plan ahead asked.asked.0 asked.was shown (runs after plan w)
    (λ K elsewhere refills k. run_holds x w sound before after s known K elsewhere refills plan ahead asked.asked.0 asked.was shown settles asked.asked.1 k)
    done more is s.own.kind refl)
    c m settled none made rest split
