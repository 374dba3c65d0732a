-- What views show, and what a query over an environment's views answers.
use Rattle.std.specs.Prelude.{ℕ, List, [], map, Some, None}
use Rattle.std.specs.List.{filter}
use Rattle.std.specs.Option.{option_map, option_and_then}
use Rattle.std.specs.declared.option.Option.{Option}
use Rattle.mesh_base_values.specs.declared.values.Cell.{Cell}
use Rattle.mesh_base_values.specs.declared.values.Name.{Name}
use Rattle.mesh_base.specs.Keys.{ref_name}
use Rattle.mesh_base.specs.declared.definitions.Defn.TheVariants.{Sql}
use Rattle.mesh_base.specs.declared.jobs.Input.{Input}
use Rattle.mesh_base.specs.declared.queries.Query.{Query}
use Rattle.mesh_base.specs.declared.snapshots.Env.{Env}
use Rattle.mesh_base.specs.declared.snapshots.Ref.{Ref}
use Rattle.mesh_house_book.specs.declared.book.Book.{Book}
use Rattle.mesh_base.specs.rules.Proper.{defn_names, is_among}
use Rattle.mesh_spec_query.specs.Sel.{Sel}
use Rattle.mesh_spec_model.specs.Scratch.{no_bounds}
use Rattle.mesh_house.specs.declared.world.World.{World}
use Rattle.mesh_house.specs.World.{view}
use Rattle.mesh_spec_changes.specs.shown.Shown.{each_there, object_rows, target_table}
use Rattle.mesh_spec_changes.specs.Environments.{env_at, view_in}
use Rattle.mesh_layer.specs.Lost.{first_of, lost_object}

-- what the object of that name shows, where there is one to look at
abbrev pub shown_behind : World → Option Name → Option (Option (List (List Cell)))
shown_behind w None = Some None
shown_behind w (Some target) = option_map Some (object_rows w target)

-- what a view shows: nothing is there where no such view stands
abbrev pub shown_view : World → Name → Option (Option (List (List Cell)))
shown_view w name = shown_behind w (view w name)

abbrev pub lost_view : World → Name → Option Name
lost_view w name = option_and_then (lost_object w) (view w name)

-- the list of an environment
abbrev pub listed_in : Option Env → List Ref
listed_in None = []
listed_in (Some e) = e.list

-- the models of an environment that a query names, in the order of the environment's list
abbrev pub asked_models : Book → List ℕ → Query → List Name
asked_models b env q = filter (is_among (defn_names (Sql q))) (map ref_name (listed_in (env_at b env)))

-- a model as a table: its rows and columns are those of the object that its view points at
abbrev pub table_behind : World → Name → Option Name → Option Input
table_behind w model None = None
table_behind w model (Some target) = target_table (object_rows w) w (record { first = model; second = target })

abbrev pub view_table : List ℕ → World → Name → Option Input
view_table env w model = table_behind w model (view w (view_in env model))

-- what is lost there: the view itself where it doesn't stand
abbrev pub lost_table : World → Name → Option Name → Option Name
lost_table w name None = Some name
lost_table w name (Some target) = lost_object w target

abbrev pub lost_model : List ℕ → World → Name → Option Name
lost_model env w model = lost_table w (view_in env model) (view w (view_in env model))

-- the rows of a query over the views of an environment's models
abbrev pub asked : Book → List ℕ → Query → World → Option (List (List Cell))
asked b env q w = option_map (λ (tables : List Input). Sel q tables no_bounds) (each_there (map (view_table env w) (asked_models b env q)))

abbrev pub lost_asked : Book → List ℕ → Query → World → Option Name
lost_asked b env q w = first_of (map (lost_model env w) (asked_models b env q))
