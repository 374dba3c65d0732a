-- What a command line leaves of the environments that it isn't for, and of what is recorded.
use Rattle.std.specs.Prelude.{◌≡◌, ℕ, List}
use Rattle.mesh_base.specs.declared.snapshots.Env.{Env}
use Rattle.mesh_base.specs.declared.snapshots.Ref.{Ref}
use Rattle.mesh_base.specs.declared.snapshots.Snapshot.{Snapshot}
use Rattle.mesh_house_book.specs.declared.versions.Version.{Version}
use Rattle.mesh_spec_model.specs.Horizons.{Clock, Shows}
use Rattle.mesh_house.specs.World.{view}
use Rattle.mesh_house.specs.declared.world.World.{World}
use Rattle.mesh_spec_changes.specs.Commands as promise
use Rattle.mesh_spec_changes.specs.Environments.{IsEnv, view_in}
use Rattle.mesh_spec_promise.specs.Histories.{judged_at}
use Rattle.mesh_spec_promise.specs.Sound.{IsEntry}
use Rattle.mesh_law_promise.specs.isolation.Isolation.{KeepsRows, again_in}
use Rattle.mesh_cli_words.specs.declared.line.Command.{Command}
use Rattle.mesh_cli_words.specs.declared.line.Command.TheVariants.{Plan, Apply, Janitor, Invalidate, Migrate}
use Rattle.mesh_cli.specs.cli.Sides.{Sides}
use Rattle.mesh_cli.specs.promise.Promised.{AsksFor}

-- A line isn't for the environment of this name: a plan that is applied, an apply and what is to go are for the one
-- that they name; a run switches none, so its own is among the others. The janitor may take any away, and a migration
-- renames the entries of all.
abbrev pub IsForOthers : Command → List ℕ → Type 0
IsForOthers (Plan env true workers moment again) name = ¬ (name ≡ env)
IsForOthers (Apply env workers moment again) name = ¬ (name ≡ env)
IsForOthers (Janitor moment) name = ⊥
IsForOthers (Invalidate env) name = ¬ (name ≡ env)
IsForOthers Migrate name = ⊥
IsForOthers other name = Unit {0}

-- a line drops no tables; the janitor may
abbrev pub KeepsTables : Command → Type 0
KeepsTables (Janitor moment) = ⊥
KeepsTables other = Unit {0}

-- an environment has its record, with both of its lists, and each of its views points where it pointed
pub record HasStayed (e : Env) (w v : World) : Type 0 where
  pub known : IsEnv v.book e
  pub views : (r : Ref) → IsEntry e r → view v (view_in e.name r.name) ≡ view w (view_in e.name r.name)

-- Nothing was changed; or what is recorded of a snapshot's table, and isn't computed again by what the line asks for,
-- has the rows that it had, of a FULL table where its recorded marks are its model's at the moment that the line is
-- judged at.
pub data StillHas (dir : List ℕ) (s : Sides) (c : Command) (w : World) (its : Snapshot) (version : Version) : World → Type 0 where
  same_world : StillHas dir s c w its version w
  same_rows : (v : World) (k : promise.Command) → AsksFor dir s c w k → (before after : Clock) → Shows before w.book.moment → Shows after (judged_at w k) → KeepsRows before after (again_in k) w v its version its.own.kind →
      StillHas dir s c w its version v
