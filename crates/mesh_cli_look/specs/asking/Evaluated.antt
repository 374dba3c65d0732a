-- The text of the rows of an environment's model, evaluated for some days.
use Rattle.std.specs.Prelude.{ℕ, ℤ, pos, ◌+ℤ◌, ◌*ℤ◌, if◌then◌else◌, List, codes, map, Some, None, Result, Ok, Err}
use Rattle.std.specs.List.{find}
use Rattle.std.specs.Option.{option_and_then, option_map}
use Rattle.std.specs.Ordering.{is_eq}
use Rattle.std.specs.declared.option.Option.{Option}
use Rattle.mesh_base_values.specs.Kinds.{is_incremental}
use Rattle.mesh_base_values.specs.Names.{name_cmp}
use Rattle.mesh_base_values.specs.declared.times.Bounds.{Bounds}
use Rattle.mesh_base_values.specs.declared.values.Cell.{Cell}
use Rattle.mesh_base_values.specs.declared.values.Name.{Name}
use Rattle.mesh_query_tokens.specs.declared.faults.FaultKind.TheVariants.{UnknownRelation}
use Rattle.mesh_cli_print.specs.faults.Lines.{name_text}
use Rattle.mesh_base.specs.Keys.{ref_name}
use Rattle.mesh_base.specs.Outputs.{columns_of}
use Rattle.mesh_base.specs.declared.definitions.Own.{Own}
use Rattle.mesh_base.specs.declared.jobs.Input.{Input}
use Rattle.mesh_base.specs.declared.snapshots.Ref.{Ref}
use Rattle.mesh_base.specs.declared.snapshots.Snapshot.{Snapshot}
use Rattle.mesh_house_book.specs.declared.book.Book.{Book}
use Rattle.mesh_house_book.specs.WellFormed.{snapshot_at}
use Rattle.mesh_spec_model.specs.Scratch.{defn_rows, no_bounds, piece_over}
use Rattle.mesh_spec_model.specs.Sources.{inputs}
use Rattle.mesh_house.specs.declared.world.World.{World}
use Rattle.mesh_spec_changes.specs.shown.Shown.{each_there}
use Rattle.mesh_layer.specs.Asked.{lost_model, view_table}
use Rattle.mesh_layer.specs.Lost.{first_of}
use Rattle.mesh_exec.specs.declared.sources.Breach.{Breach}
use Rattle.mesh_exec.specs.Sources.{kind_of, model_breach}
use Rattle.mesh_cli_print.specs.declared.printed.refusals.Refusal.{Refusal}
use Rattle.mesh_cli_print.specs.declared.printed.refusals.Refusal.TheVariants.{Model}
use Rattle.mesh_cli_look.specs.asking.Looks.{◌>>=◌, list_of, printed}

-- the seconds of the days from the first to the last, both included
abbrev pub days : ℤ → ℤ → Bounds
days first last = record { start = first *ℤ pos 86400; end = (last +ℤ pos 1) *ℤ pos 86400 }

-- the model of that name in a list
abbrev pub listed : List Ref → Name → Option Ref
listed list name = find (λ (r : Ref). is_eq (name_cmp r.name name)) list

abbrev pub snapshot_of : List Snapshot → List Ref → Name → Option Snapshot
snapshot_of all list name = option_and_then (snapshot_at all) (listed list name)

-- the words name no model of the environment
abbrev pub unknown : Name → Refusal
unknown name = Model (codes "-") 0 (UnknownRelation (name_text name))

-- what the model's sources lack is told with the model's name in the place of a file's
abbrev pub lacks : Name → Option Breach → Result (Unit {0}) Refusal
lacks model None = Ok tt
lacks model (Some b) = Err (Model (name_text model) 0 (kind_of b))

-- the models that a model stands on
abbrev pub parents_of : Snapshot → List Name
parents_of s = map ref_name s.parents

-- the tables that a model reads: its sources as they stand, and its parents as their views in the environment show them
abbrev pub tables_behind : List ℕ → Snapshot → World → Option (List Input)
tables_behind env s w = option_map (inputs w.sources s.own) (each_there (map (view_table env w) (parents_of s)))

-- what is lost there
abbrev pub lost_behind : List ℕ → Snapshot → World → Option Name
lost_behind env s w = first_of (map (lost_model env w) (parents_of s))

-- the rows of a model for some seconds over the tables that it reads: of an incremental one those that lie in these,
-- in one evaluation, and all of another one
abbrev pub rows_for : Own → Bounds → List Input → List (List Cell)
rows_for own u tables = if is_incremental own.kind then piece_over own tables u else defn_rows own.defn tables no_bounds

abbrev pub found_rows : List ℕ → Snapshot → Bounds → World → Option (List (List Cell))
found_rows env s u w = option_map (rows_for s.own u) (tables_behind env s w)

-- the text of a model's rows, where it is there: its sources are looked at before its parents' views
abbrev pub model_text : List ℕ → Name → Bounds → World → Option Snapshot → Result (List ℕ) Refusal
model_text env model u w None = Err (unknown model)
model_text env model u w (Some s) =
    lacks model (model_breach w.sources s.own.sources) >>= λ there. printed (columns_of s.own) (found_rows env s u w) (lost_behind env s w)

-- the text of the rows of a model of an environment for some seconds, in a world
abbrev pub evaluated : Book → List ℕ → Name → Bounds → World → Result (List ℕ) Refusal
evaluated b env model u w = list_of b env >>= λ list. model_text env model u w (snapshot_of b.snapshots list model)
