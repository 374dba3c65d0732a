-- What is recorded of a table and isn't computed again keeps its rows at each exit of a command, whether that settles
-- or not.
use Rattle.std.proofs.Common.{◌≡◌, true, List, ◌++◌, Some, refl}
use Rattle.std.specs.List.{filter}
use Rattle.mesh_list.proofs.Ascends.{and_left, and_right}
use Rattle.mesh_base_values.specs.declared.kinds.Kind.{Kind}
use Rattle.mesh_base_values.specs.declared.kinds.Kind.TheVariants.{Full, View, Seed, Incremental}
use Rattle.mesh_base_values.specs.declared.values.Cell.{Cell}
use Rattle.mesh_base.specs.declared.definitions.Own.{Own}
use Rattle.mesh_base.specs.declared.snapshots.Snapshot.{Snapshot}
use Rattle.mesh_house_book.specs.declared.versions.Version.{Version}
use Rattle.mesh_spec_model.specs.Horizons.{Clock, Shows}
use Rattle.mesh_spec_model.specs.Scratch.{is_of_unit}
use Rattle.mesh_house.specs.Step.{run, step}
use Rattle.mesh_house.specs.World.{version_of}
use Rattle.mesh_house.specs.declared.world.Change.{Change}
use Rattle.mesh_house.specs.declared.world.World.{World}
use Rattle.mesh_spec_changes.specs.listed.Closing.{IsSnapshot, closing}
use Rattle.mesh_spec_changes.specs.reuse.Cores.{IsTwin}
use Rattle.mesh_spec_changes.specs.due.Parts.{Parts, is_among}
use Rattle.mesh_spec_changes.specs.due.Plans.{Planned}
use Rattle.mesh_spec_changes.specs.Changes.{Plan, applies, runs}
use Rattle.mesh_spec_changes.specs.Commands.{Apply, Command, RunAll, changes, is_not_behind, is_present}
use Rattle.mesh_spec_promise.specs.Histories.{IsMet}
use Rattle.mesh_spec_promise.specs.Sound.{Sound, table_rows}
use Rattle.mesh_law_promise.proofs.Promise.{shows_raised}
use Rattle.mesh_law_promise.specs.isolation.Isolation.{DropsNone, HasStill, KeepsRows, again_in}
use Rattle.mesh_law_promise.proofs.isolation.Elsewhere.{IsElsewhere}
use Rattle.mesh_law_promise.proofs.isolation.Holds.{HoldsAlong}
use Rattle.mesh_law_promise.proofs.isolation.Models.{seed_again, unit_spared, whole_spared}
use Rattle.mesh_law_promise.proofs.isolation.Plans.{apply_spares, run_spares}
use Rattle.mesh_law_promise.proofs.isolation.Rows.{Keeps, keeps_elsewhere}
use Rattle.mesh_law_promise.proofs.isolation.Tables.{command_keeps, kept, seed_made, unit_later, unit_made, whole_made}
use Rattle.mesh_law_promise.proofs.isolation.Turns.{FillsAgain}

module _ (x : Parts) (w : World) (sound : Sound x w) (before after : Clock) (s : Snapshot) (known : IsSnapshot w.book.snapshots s) (v : Version) (at : version_of w.book s.object ≡ Some v)
    (plan : Plan) where
  -- what of a table holds along the changes of the plan's command, where it holds whenever a model of the table is
  -- filled again
  abbrev Refills : (World → Type 0) → Type 0
  Refills K = (p : Planned) → p.object ≡ s.object → IsTwin (closing w.book.snapshots s) p.closure → p.node.own ≡ s.own → (u : World) → K u → FillsAgain after w.book plan.forgets plan.models K p u

  module _ (ahead : is_not_behind plan.moment w.book ≡ true) (was : Shows before w.book.moment) (is : Shows after plan.moment) (list : List Change)
      (holds : (K : World → Type 0) → ((u : World) (c : Change) → IsElsewhere s.object c → K u → K (step u c)) → Refills K → K w → HoldsAlong K w list)
      (done rest : List Change) (split : list ≡ done ++ rest) where
    -- a part of the rows that it has
    part_spared : (part : Own → List (List Cell) → List (List Cell)) → v.made ≡ true → (rows : List (List Cell)) → table_rows w s.object ≡ Some rows
        → Refills (Keeps part (part s.own rows) s.object s.own) → HasStill (table_rows (run w done) s.object) (part s.own) rows
    part_spared part made rows there refills =
        let fixed : List (List Cell) = part s.own rows in
        kept x w sound before after s known v at part fixed made list (holds (Keeps part fixed s.object s.own) (keeps_elsewhere part fixed s.object s.own) refills) done rest split
        rows there (λ row. refl)

    rows_spared : (kind : Kind) → s.own.kind ≡ kind → KeepsRows before after (is_among plan.forgets) w (run w done) s v kind
    rows_spared (Incremental time lookback) e = λ d listed held free rows there.
        let made = unit_made x w sound before after s known v at d listed held in
        let later = unit_later x w sound before after s known v at plan ahead was is d listed in
        part_spared (λ o. filter (is_of_unit o d)) made rows there
        (λ p its twin own u k. unit_spared after w.book plan.forgets plan.models w.book.snapshots s v at made p its twin own u time lookback e d later (filter (is_of_unit s.own d) rows) k held free)
    rows_spared Full e = λ marked free rows there.
        let made = whole_made x w sound before after s known v at marked in
        part_spared (λ o rs. rs) made rows there (λ p its twin own u k. whole_spared after w.book plan.forgets plan.models w.book.snapshots s v at made p its twin own u e marked free rows k)
    rows_spared Seed e = λ marked rows there.
        let made = seed_made x w sound before after s known v at marked in
        part_spared (λ o rs. rs) made rows there (λ p its twin own u k. seed_again after w.book plan.forgets plan.models w.book.snapshots s v at made p its twin own u e marked rows k)
    rows_spared View e = tt

pub not_again_kept : (x : Parts) (w : World) (c : Command) (before after : Clock) → IsMet before after w c → Sound x w → DropsNone c → (made rest : List Change) → changes after c w ≡ made ++ rest
    → (s : Snapshot) → IsSnapshot w.book.snapshots s → (v : Version) → version_of w.book s.object ≡ Some v → KeepsRows before after (again_in c) w (run w made) s v s.own.kind
not_again_kept x w c before after m sound none made rest split s known v at =
    command_keeps x w sound before after s known v at again_in (λ o. Unit {0})
    (λ plan asked more allowed done others is.
    let ahead = and_right (is_present w.book) _ allowed in
    let shown = shows_raised before after w (Apply plan) asked allowed in
    rows_spared x w sound before after s known v at plan ahead asked.was shown (applies after plan w)
    (λ K elsewhere refills k. apply_spares x w sound before after s known K elsewhere plan refills ahead asked.asked.moment asked.was shown (and_left (is_present w.book) _ allowed) asked.asked k)
    done others is s.own.kind refl)
    (λ plan asked more allowed done others is.
    let ahead = and_left (is_not_behind plan.moment w.book) _ (and_right (is_present w.book) _ allowed) in
    let shown = shows_raised before after w (RunAll plan) asked allowed in
    rows_spared x w sound before after s known v at plan ahead asked.was shown (runs after plan w)
    (λ K elsewhere refills k. run_spares x w sound before after s known K elsewhere plan refills asked.asked.1 k)
    done others is s.own.kind refl)
    c m tt none made rest split
