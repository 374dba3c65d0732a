-- The one list of changes that a command makes.
use Rattle.std.specs.Prelude.{ℕ, ℤ, Bool, true, false, not, ◌&&◌, nat_eq, if◌then◌else◌, List, [], ◌∷◌, Some, None}
use Rattle.std.specs.Int.Signed.{lt_z}
use Rattle.std.specs.Option.{is_some}
use Rattle.std.specs.declared.option.Option.{Option}
use Rattle.mesh_base_values.specs.declared.values.Cell.{Cell}
use Rattle.mesh_base_values.specs.declared.values.Column.{Column}
use Rattle.mesh_base_values.specs.declared.values.Name.{Name}
use Rattle.mesh_base.specs.declared.forgets.Rename.{Rename}
use Rattle.mesh_base.specs.declared.snapshots.Env.{Env}
use Rattle.mesh_house_book.specs.declared.book.Book.{Book}
use Rattle.mesh_house_book.specs.WellFormed.{is_well_formed_book}
use Rattle.mesh_house_book.specs.moves.Renames.{has_twins, renamed_all}
use Rattle.mesh_spec_model.specs.Horizons.{Clock}
use Rattle.mesh_house.specs.declared.world.World.{World}
use Rattle.mesh_house.specs.declared.world.Change.{Change}
use Rattle.mesh_house.specs.declared.world.Change.TheVariants.{Load, Expire, Migrate}
use Rattle.mesh_spec_changes.specs.Changes.{Plan, applies, runs}
use Rattle.mesh_spec_changes.specs.Environments.{env_at}
use Rattle.mesh_spec_changes.specs.Kept.{sweeps}

-- What a command asks for, once its words and files are read: `plan --auto-apply` is an apply, and a command that only
-- looks, or whose project, words or files have a fault, asks for nothing.
pub data Command : Type 0 where
  Apply : Plan → Command
  RunAll : Plan → Command
  Janitor : ℤ → Command
  Ingest : Name → List Column → List (List Cell) → Bool → Command
  Invalidate : List ℕ → Command
  MigrateAll : List Rename → Command
  Nothing : Command

-- a book of the present version that breaks no rule
abbrev pub is_present : Book → Bool
is_present b = is_well_formed_book b && nat_eq b.version 2

-- an environment is there and no switch of it is under way
abbrev pub is_final : Option Env → Bool
is_final None = false
is_final (Some e) = not e.pending

-- no earlier than the book's moment
abbrev pub is_not_behind : ℤ → Book → Bool
is_not_behind t b = not (lt_z t b.moment)

-- a world allows a command: the book is as it has to be, the moment isn't behind, the environment is known and, for a
-- run, not pending; a book is only moved from version 1 on, and no two snapshots may become one
abbrev pub allows : World → Command → Bool
allows w (Apply plan) = is_present w.book && is_not_behind plan.moment w.book
allows w (RunAll plan) = is_present w.book && (is_not_behind plan.moment w.book && is_final (env_at w.book plan.env))
allows w (Janitor t) = is_present w.book && is_not_behind t w.book
allows w (Ingest name columns rows keep) = true
allows w (Invalidate env) = is_present w.book && is_some (env_at w.book env)
allows w (MigrateAll renames) = is_well_formed_book w.book && (nat_eq w.book.version 1 && not (has_twins (renamed_all renames w.book.snapshots)))
allows w Nothing = true

-- the changes of a command that is allowed
abbrev pub asked : Clock → Command → World → List Change
asked clock (Apply plan) w = applies clock plan w
asked clock (RunAll plan) w = runs clock plan w
asked clock (Janitor t) w = sweeps w.book t
asked clock (Ingest name columns rows keep) w = Load name columns rows keep ∷ []
asked clock (Invalidate env) w = Expire env ∷ []
asked clock (MigrateAll renames) w = Migrate renames ∷ []
asked clock Nothing w = []

-- the changes of a command: none where it is refused
abbrev pub changes : Clock → Command → World → List Change
changes clock c w = if allows w c then asked clock c w else []
