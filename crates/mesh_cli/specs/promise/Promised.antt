-- The command of the promise that a command line asks for in a world, by the files of the folder and the clock's
-- moment.
use Rattle.std.specs.Prelude.{◌≡◌, ℕ, ℤ, Bool, true, false, List}
use Rattle.std.specs.declared.option.Option.{Option}
use Rattle.mesh_base.specs.declared.forgets.Rename.{Rename}
use Rattle.mesh_base.specs.declared.forgets.Restate.{Restate}
use Rattle.mesh_base.specs.declared.rules.plans.Plan.{Plan as Made}
use Rattle.mesh_spec_model.specs.Horizons.{Clock}
use Rattle.mesh_house.specs.declared.world.World.{World}
use Rattle.mesh_spec_changes.specs.Commands as promise
use Rattle.mesh_spec_promise.specs.Final.{Final}
use Rattle.mesh_cli_words.specs.declared.line.Command.{Command}
use Rattle.mesh_cli_words.specs.declared.line.Command.TheVariants.{Plan, Apply, Run, Evaluate, Fetchdf, Ingest, Janitor, Invalidate, Migrate, Trace, Impact, Batch, Demo}
use Rattle.mesh_plan.specs.Plans.{promised}
use Rattle.mesh_cli_apply.specs.Loaded.{IsProject}
use Rattle.mesh_cli_apply.specs.Migrating.{IsMoved}
use Rattle.mesh_cli_apply.specs.Planning.{IsPlanned, IsRunPlanned}
use Rattle.mesh_cli_look.specs.upkeep.Ingesting.{IsSource}
use Rattle.mesh_cli.specs.cli.Sides.{AtMoment, Sides}

-- an apply of a plan of the project in a folder
abbrev pub AsksApply : List ℕ → Sides → List ℕ → Option ℤ → Option Restate → World → promise.Command → Type 0
AsksApply dir s env moment again w k = AtMoment moment s.clock.moment (λ t. IsProject s.folder.files dir (λ nodes. (p : Made) × IsPlanned w.book nodes env t again p × (k ≡ promise.Apply (promised p))))

-- a plan alone asks for nothing
abbrev pub AsksPlan : Bool → List ℕ → Sides → List ℕ → Option ℤ → Option Restate → World → promise.Command → Type 0
AsksPlan true dir s env moment again w k = AsksApply dir s env moment again w k
AsksPlan false dir s env moment again w k = k ≡ promise.Nothing

-- what a command line asks for
abbrev pub AsksFor : List ℕ → Sides → Command → World → promise.Command → Type 0
AsksFor dir s (Plan env auto workers moment again) w k = AsksPlan auto dir s env moment again w k
AsksFor dir s (Apply env workers moment again) w k = AsksApply dir s env moment again w k
AsksFor dir s (Run env workers moment) w k = AtMoment moment s.clock.moment (λ t. (p : Made) × IsRunPlanned w.book env t p × (k ≡ promise.RunAll (promised p)))
AsksFor dir s (Evaluate model env first last) w k = k ≡ promise.Nothing
AsksFor dir s (Fetchdf query env) w k = k ≡ promise.Nothing
AsksFor dir s (Ingest name file append) w k = IsSource s.folder.files dir name file (λ source. k ≡ promise.Ingest name source.columns source.rows append)
AsksFor dir s (Janitor moment) w k = AtMoment moment s.clock.moment (λ t. k ≡ promise.Janitor t)
AsksFor dir s (Invalidate env) w k = k ≡ promise.Invalidate env
AsksFor dir s Migrate w k = (renames : List Rename) × IsMoved w.book renames × (k ≡ promise.MigrateAll renames)
AsksFor dir s (Trace model column) w k = k ≡ promise.Nothing
AsksFor dir s (Impact name column) w k = k ≡ promise.Nothing
AsksFor dir s Batch w k = k ≡ promise.Nothing
AsksFor dir s (Demo n workers) w k = k ≡ promise.Nothing

-- an apply or a run is one that the world allows, and leaves its environment final; other commands leave nothing of
-- this kind
abbrev pub LeavesIt : Clock → promise.Command → World → World → Type 0
LeavesIt clock (promise.Apply plan) w v = (promise.allows w (promise.Apply plan) ≡ true) × Final v clock plan.env plan.models
LeavesIt clock (promise.RunAll plan) w v = (promise.allows w (promise.RunAll plan) ≡ true) × Final v clock plan.env plan.models
LeavesIt clock (promise.Janitor t) w v = Unit {0}
LeavesIt clock (promise.Ingest name columns rows keep) w v = Unit {0}
LeavesIt clock (promise.Invalidate env) w v = Unit {0}
LeavesIt clock (promise.MigrateAll renames) w v = Unit {0}
LeavesIt clock promise.Nothing w v = Unit {0}
