-- What is recorded of a table keeps its rows at each exit of a command, where a part of them is held along its changes.
use Rattle.std.proofs.Common.{◌≡◌, Bool, true, false, cond, List, [], ◌∷◌, ◌++◌, Some, None, refl, sym, ◌∙◌, ap, subst, arith, IsSome}
use Rattle.std.proofs.lemmas.Int.{ints}
use Rattle.std.specs.List.{Contains, filter}
use Rattle.std.specs.Option.{ForSome, is_some}
use Rattle.std.specs.declared.option.Option.{Option}
use Rattle.std.proofs.lemmas.Bool.{not-true as not_false}
use Rattle.mesh_base_values.specs.Bag.{IsSameBag}
use Rattle.mesh_base_values.specs.declared.kinds.Kind.{Kind}
use Rattle.mesh_base_values.specs.declared.kinds.Kind.TheVariants.{Full, View, Seed, Incremental}
use Rattle.mesh_base_values.specs.declared.times.Bounds.{Bounds}
use Rattle.mesh_base_values.specs.declared.values.Cell.{Cell}
use Rattle.mesh_base.specs.declared.definitions.Own.{Own}
use Rattle.mesh_base.specs.declared.snapshots.Snapshot.{Snapshot}
use Rattle.mesh_time.specs.Ranges.{Has as HasSecond, is_held}
use Rattle.mesh_time.proofs.Apart.{lt_not}
use Rattle.mesh_time.proofs.Held.{has_if_held}
use Rattle.mesh_house_book.specs.declared.versions.Version.{Version}
use Rattle.mesh_spec_model.specs.Closures.{Closure, standing}
use Rattle.mesh_spec_model.specs.Horizons.{Clock, Shows, schedule}
use Rattle.mesh_spec_model.specs.Scratch.{is_of_unit}
use Rattle.mesh_law_query.proofs.Lists.{Each, Each_left}
use Rattle.mesh_house.specs.Step.{run, step}
use Rattle.mesh_house.specs.World.{body_of, object_at, rows_of, version_of}
use Rattle.mesh_house.specs.declared.objects.Object.{Object}
use Rattle.mesh_house.specs.declared.world.Change.{Change}
use Rattle.mesh_house.specs.declared.world.World.{World}
use Rattle.mesh_spec_changes.specs.listed.Closing.{IsSnapshot, closing}
use Rattle.mesh_spec_changes.specs.due.Marks.{marks}
use Rattle.mesh_spec_changes.specs.due.Parts.{Parts}
use Rattle.mesh_spec_changes.proofs.due.Later.{Earlier, earlier, schedule_grows}
use Rattle.mesh_spec_changes.specs.Changes.{Plan, applies, runs}
use Rattle.mesh_spec_changes.specs.Commands.{Apply, Command, Ingest, Invalidate, Janitor, MigrateAll, Nothing, RunAll, allows, asked, changes, is_not_behind}
use Rattle.mesh_spec_promise.specs.Histories.{IsMet}
use Rattle.mesh_spec_promise.specs.Sound.{IsMade, Sound, table_rows}
use Rattle.mesh_spec_promise.proofs.Crons.{closed_crons}
use Rattle.mesh_spec_promise.proofs.Seconds.{scheduled_proper}
use Rattle.mesh_law_promise.specs.isolation.Isolation.{DropsNone, HasStill, KeepsRows}
use Rattle.mesh_law_promise.proofs.isolation.Elsewhere.{IsElsewhere, object_other}
use Rattle.mesh_law_promise.proofs.isolation.Holds.{HoldsAlong, holds_front}
use Rattle.mesh_law_promise.proofs.isolation.Rows.{Keeps, keeps_first, keeps_rows}

-- a table that isn't touched has the rows that it had
module _ (before after : Clock) (y : Parts) (w later : World) (s : Snapshot) (v : Version) (same : object_at later s.object ≡ object_at w s.object) where
  still : (part : List (List Cell) → List (List Cell)) → ForSome (table_rows w s.object) (HasStill (table_rows later s.object) part)
  still part rows at = (rows, ap (λ (o : Option Object). rows_of (body_of o)) same ∙ at, λ row. refl)

  untouched : (kind : Kind) → KeepsRows before after y w later s v kind
  untouched (Incremental time lookback) = λ u listed held free. still (filter (is_of_unit s.own u))
  untouched Full = λ marked free. still (λ rows. rows)
  untouched Seed = λ marked. still (λ rows. rows)
  untouched View = tt

elsewhere_run : (w : World) (s : Snapshot) (list : List Change) → Each (IsElsewhere s.object) list → object_at (run w list) s.object ≡ object_at w s.object
elsewhere_run w s [] h = refl
elsewhere_run w s (c ∷ cs) h = elsewhere_run (step w c) s cs h.1 ∙ object_other w s.object c h.0

-- the marks of what isn't made are none, and so are its ranges
made_where : (v : Version) → (v.made ≡ false → ⊥) → v.made ≡ true
made_where v never = go v.made refl
  where
    go : (b : Bool) → v.made ≡ b → b ≡ true
    go true e = refl
    go false e = absurd (never e)

module _ (x : Parts) (w : World) (sound : Sound x w) (before after : Clock) (s : Snapshot) (known : IsSnapshot w.book.snapshots s) (v : Version) (at : version_of w.book s.object ≡ Some v) where
  abbrev c : Closure
  c = closing w.book.snapshots s

  -- a table is made where a unit of it is recorded, or its marks are
  pub unit_made : (d : Bounds) → Contains (schedule before c) d → is_held v.ranges d.start d.end ≡ true → v.made ≡ true
  unit_made d listed held =
      let proper = scheduled_proper before c d listed in
      let has : HasSecond v.ranges d.start = has_if_held v.ranges d.start d.end held d.start (omega (arith, ints)) proper in
      made_where v (λ unmade. subst (λ (r : List Bounds). HasSecond r d.start) (sound.book.ranges s.object v at unmade) has)

  pub whole_made : v.marks ≡ Some (marks after c) → v.made ≡ true
  whole_made marked = made_where v (λ unmade. let clash : None ≡ Some (marks after c) = sym (sound.book.marks s.object v at unmade) ∙ marked in cc)

  pub seed_made : IsSome v.marks → v.made ≡ true
  seed_made marked = made_where v (λ unmade. let clash : false ≡ true = sym (ap is_some (sound.book.marks s.object v at unmade)) ∙ marked in cc)

  -- a unit of its schedule is one at a later moment
  pub unit_later : (plan : Plan) → is_not_behind plan.moment w.book ≡ true → Shows before w.book.moment → Shows after plan.moment
      → (d : Bounds) → Contains (schedule before c) d → Contains (schedule after c) d
  unit_later plan ahead was is d listed = schedule_grows before after c grown d listed
    where
      grown : Each (Earlier before after) (standing c)
      grown =
          earlier w.book.moment plan.moment before after (lt_not plan.moment w.book.moment (not_false _ ahead)) was is (standing c)
          (closed_crons w.book.snapshots sound.typed.crons s.rank s known)

  -- some rows that a part of the table has, along a list
  pub kept : (part : Own → List (List Cell) → List (List Cell)) (fixed : List (List Cell)) → v.made ≡ true → (list : List Change)
      → (Keeps part fixed s.object s.own w → HoldsAlong (Keeps part fixed s.object s.own) w list) → (done rest : List Change) → list ≡ done ++ rest
      → (rows : List (List Cell)) → table_rows w s.object ≡ Some rows → IsSameBag (part s.own rows) fixed → HasStill (table_rows (run w done) s.object) (part s.own) rows
  kept part fixed made list along done rest is rows there same =
      let stands : IsMade w s = sound.objects.made s known v at made in
      let first : Keeps part fixed s.object s.own w = keeps_first part fixed s.object s.own w stands.object stands.stands stands.columns rows there same in
      let end : Keeps part fixed s.object s.own (run w done) =
      holds_front (Keeps part fixed s.object s.own) w done rest (subst (HoldsAlong (Keeps part fixed s.object s.own) w) is (along first)) in
      (end.rows, keeps_rows part fixed s.object s.own (run w done) end, λ row. end.same row ∙ sym (same row))

  -- a command that changes no tables
  tables_left : (y : Parts) (list : List Change) → Each (IsElsewhere s.object) list → (done rest : List Change) → list ≡ done ++ rest → KeepsRows before after y w (run w done) s v s.own.kind
  tables_left y list each done rest split =
      untouched before after y w (run w done) s v (elsewhere_run w s done (Each_left (IsElsewhere s.object) done rest (subst (Each (IsElsewhere s.object)) split each))) s.own.kind

  -- Of a command, of which something more is known, it is left to say what an apply keeps, and a run.
  module _ (y : Command → Parts) (More : Command → Type 0) where
    abbrev KeepsOf : Command → List Change → Type 0
    KeepsOf o done = KeepsRows before after (y o) w (run w done) s v s.own.kind

    module _
        (of_apply : (plan : Plan) → IsMet before after w (Apply plan) → More (Apply plan) → allows w (Apply plan) ≡ true
        → (done rest : List Change) → applies after plan w ≡ done ++ rest → KeepsOf (Apply plan) done)
        (of_run : (plan : Plan) → IsMet before after w (RunAll plan) → More (RunAll plan) → allows w (RunAll plan) ≡ true
        → (done rest : List Change) → runs after plan w ≡ done ++ rest → KeepsOf (RunAll plan) done) where
      asked_keeps : (o : Command) → IsMet before after w o → More o → DropsNone o → allows w o ≡ true → (done rest : List Change) → asked after o w ≡ done ++ rest → KeepsOf o done
      asked_keeps (Apply plan) m more none allowed done rest split = of_apply plan m more allowed done rest split
      asked_keeps (RunAll plan) m more none allowed done rest split = of_run plan m more allowed done rest split
      asked_keeps (Janitor t) m more none allowed done rest split = absurd none
      asked_keeps (Ingest name columns rows keep) m more none allowed done rest split =
          tables_left (y (Ingest name columns rows keep)) (asked after (Ingest name columns rows keep) w) (tt, tt) done rest split
      asked_keeps (Invalidate env) m more none allowed done rest split = tables_left (y (Invalidate env)) (asked after (Invalidate env) w) (tt, tt) done rest split
      asked_keeps (MigrateAll renames) m more none allowed done rest split = tables_left (y (MigrateAll renames)) (asked after (MigrateAll renames) w) (tt, tt) done rest split
      asked_keeps Nothing m more none allowed done rest split = tables_left (y Nothing) [] tt done rest split

      pub command_keeps : (o : Command) → IsMet before after w o → More o → DropsNone o → (done rest : List Change) → changes after o w ≡ done ++ rest → KeepsOf o done
      command_keeps o m more none done rest split = go (allows w o) refl split
        where
          go : (b : Bool) → allows w o ≡ b → cond b (asked after o w) [] ≡ done ++ rest → KeepsOf o done
          go true e f = asked_keeps o m more none e done rest f
          go false e f = tables_left (y o) [] tt done rest f
