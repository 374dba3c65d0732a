-- What a command leaves of the environments that it doesn't switch, and of what is recorded.
use Rattle.std.specs.Prelude.{◌≡◌, ℕ, true, false, List, Some, IsSome}
use Rattle.std.specs.List.{Contains, filter}
use Rattle.std.specs.Option.{ForSome}
use Rattle.std.specs.declared.option.Option.{Option}
use Rattle.mesh_base_values.specs.Bag.{IsSameBag}
use Rattle.mesh_base_values.specs.declared.kinds.Kind.{Kind}
use Rattle.mesh_base_values.specs.declared.kinds.Kind.TheVariants.{Full, View, Seed, Incremental}
use Rattle.mesh_base_values.specs.declared.times.Bounds.{Bounds}
use Rattle.mesh_base_values.specs.declared.values.Cell.{Cell}
use Rattle.mesh_base.specs.declared.forgets.Forget.TheVariants.{Marks}
use Rattle.mesh_base.specs.declared.snapshots.Snapshot.{Snapshot}
use Rattle.mesh_time.specs.Ranges.{is_held}
use Rattle.mesh_house_book.specs.declared.versions.Version.{Version}
use Rattle.mesh_spec_model.specs.Horizons.{Clock, schedule}
use Rattle.mesh_spec_model.specs.Scratch.{is_of_unit}
use Rattle.mesh_house.specs.declared.world.World.{World}
use Rattle.mesh_spec_changes.specs.listed.Closing.{closing}
use Rattle.mesh_spec_changes.specs.due.Marks.{marks}
use Rattle.mesh_spec_changes.specs.due.Parts.{Parts, is_among, unit_of}
use Rattle.mesh_spec_changes.specs.Commands.{Command, Apply, RunAll, Janitor, Ingest, Invalidate, MigrateAll, Nothing}
use Rattle.mesh_spec_promise.specs.Sound.{table_rows}

-- A command doesn't switch the environment of this name: an apply switches its own, and a run none. The janitor may
-- delete any, and a migration renames the entries of all.
abbrev pub LeavesOut : Command → List ℕ → Type 0
LeavesOut (Apply plan) name = ¬ (name ≡ plan.env)
LeavesOut (RunAll plan) name = Unit {0}
LeavesOut (Janitor t) name = ⊥
LeavesOut (Ingest source columns rows keep) name = Unit {0}
LeavesOut (Invalidate env) name = ¬ (name ≡ env)
LeavesOut (MigrateAll renames) name = ⊥
LeavesOut Nothing name = Unit {0}

-- a command drops no tables; the janitor may
abbrev pub DropsNone : Command → Type 0
DropsNone (Janitor t) = ⊥
DropsNone other = Unit {0}

-- a table of some rows still has the same ones in a part of it, each as often
abbrev pub HasStill : Option (List (List Cell)) → (List (List Cell) → List (List Cell)) → List (List Cell) → Type 0
HasStill table part rows = (now : List (List Cell)) × (table ≡ Some now) × IsSameBag (part now) (part rows)

-- what a command computes again although it is recorded
abbrev pub again_in : Command → Parts
again_in (Apply plan) q = is_among plan.forgets q
again_in (RunAll plan) q = is_among plan.forgets q
again_in other q = false

-- What is recorded of a snapshot's table, and isn't left out, has in a later world the rows that it has in this one:
-- a recorded unit of an incremental table, a FULL table whose marks are those of its model, and a seed's. The table
-- stands, as what is recorded does in a sound world. Some parts are left out: those in doubt in one law, those that
-- are computed again in the other.
abbrev pub KeepsRows : Clock → Clock → Parts → World → World → Snapshot → Version → Kind → Type 0
KeepsRows before after out w later s v (Incremental time lookback) =
    (u : Bounds) → Contains (schedule before (closing w.book.snapshots s)) u → is_held v.ranges u.start u.end ≡ true → out (unit_of s.object u) ≡ false →
    ForSome (table_rows w s.object) (HasStill (table_rows later s.object) (filter (is_of_unit s.own u)))
KeepsRows before after out w later s v Full =
    v.marks ≡ Some (marks after (closing w.book.snapshots s)) → out (Marks s.object) ≡ false →
    ForSome (table_rows w s.object) (HasStill (table_rows later s.object) (λ rows. rows))
KeepsRows before after out w later s v Seed = IsSome v.marks → ForSome (table_rows w s.object) (HasStill (table_rows later s.object) (λ rows. rows))
KeepsRows before after out w later s v View = Unit {0}
