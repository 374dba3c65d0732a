-- What audits find: in a world, over what the objects of a plan's models show, and from scratch.
use Rattle.std.specs.Prelude.{ℕ, Bool, List, [], ◌∷◌, ◌++◌, length, map, Some}
use Rattle.std.specs.List.{filter}
use Rattle.std.specs.Option.{option_map, option_and_then}
use Rattle.std.specs.declared.option.Option.{Option}
use Rattle.mesh_base_values.specs.declared.values.Cell.{Cell}
use Rattle.mesh_base_values.specs.declared.values.Name.{Name}
use Rattle.mesh_base.specs.declared.definitions.Defn.TheVariants.{Sql}
use Rattle.mesh_base.specs.declared.jobs.Input.{Input}
use Rattle.mesh_base.specs.declared.plans.Entry.{Entry}
use Rattle.mesh_base.specs.declared.queries.Query.{Query}
use Rattle.mesh_base.specs.declared.rules.plans.Plan.{Plan}
use Rattle.mesh_base.specs.declared.snapshots.Node.{Node}
use Rattle.mesh_base.specs.rules.Proper.{defn_names, is_among}
use Rattle.mesh_spec_query.specs.Sel.{Sel}
use Rattle.mesh_spec_model.specs.Closures.{Closure, closures, own_of}
use Rattle.mesh_spec_model.specs.Horizons.{Clock}
use Rattle.mesh_spec_model.specs.Scratch.{from_scratch, no_bounds, table_of}
use Rattle.mesh_house.specs.declared.world.World.{World}
use Rattle.mesh_spec_changes.specs.shown.Shown.{each_there, object_rows}
use Rattle.mesh_layer.specs.Lost.{first_of, lost_object}
use Rattle.mesh_audit.specs.declared.audits.Audit.{Audit}
use Rattle.mesh_audit.specs.declared.audits.Finding.{Finding}

-- a model as a table, with its rows from scratch
abbrev pub scratch_table : List Input → Clock → Closure → Input
scratch_table sources clock c = table_of (own_of c) (from_scratch sources clock c)

-- The rows of an audit from scratch: those of its query over the rows from scratch of the project's models.
abbrev pub scratch_rows : Audit → List Node → List Input → Clock → List (List Cell)
scratch_rows a nodes sources clock = Sel a.query (map (scratch_table sources clock) (closures nodes)) no_bounds

-- a model of a plan, and the object that has its rows
pub record Placed : Type 0 where
  pub node : Node
  pub object : Name

-- each model beside its object
abbrev pub placed : List Node → List Entry → List Placed
placed [] entries = []
placed (n ∷ ns) [] = []
placed (n ∷ ns) (e ∷ es) = record { node = n; object = e.object } ∷ placed ns es

-- a model as a table, with the rows that its object shows; none where it dangles
abbrev pub shown_table : World → Placed → Option Input
shown_table w m = option_map (table_of m.node.own) (object_rows w m.object)

-- a query names the model
abbrev pub is_asked : Query → Placed → Bool
is_asked q m = is_among (defn_names (Sql q)) m.node.own.name

-- the models that a query names, by rank and name
abbrev pub asked : List Placed → Query → List Placed
asked all q = filter (is_asked q) all

-- the tables of the models that a query names; none where an object dangles
abbrev pub asked_tables : World → List Placed → Query → Option (List Input)
asked_tables w all q = each_there (map (shown_table w) (asked all q))

-- The rows of an audit in a world: those of its query over what the objects of the models that it names show.
abbrev pub audit_rows : World → List Placed → Audit → Option (List (List Cell))
audit_rows w all a = option_map (λ (tables : List Input). Sel a.query tables no_bounds) (asked_tables w all a.query)

-- an audit that has rows is found, with their number
abbrev pub finding : Audit → List (List Cell) → List Finding
finding a [] = []
finding a (row ∷ rows) = record { model = a.model; name = a.name; rows = length (row ∷ rows) } ∷ []

-- what an audit finds in a world
abbrev pub found_by : World → List Placed → Audit → Option (List Finding)
found_by w all a = option_map (finding a) (audit_rows w all a)

-- what each of a list gives, one behind the other; nothing where one of them gives nothing
abbrev pub gathered : {A B : Type 0} → (A → Option (List B)) → List A → Option (List B)
gathered give [] = Some []
gathered give (x ∷ xs) = option_and_then (λ ys. option_map (λ zs. ys ++ zs) (gathered give xs)) (give x)

-- what audits find over what the objects of a plan show, in the order of the audits
abbrev pub findings : Plan → List Audit → World → Option (List Finding)
findings p audits w = gathered (found_by w (placed p.project.nodes p.entries)) audits

abbrev pub lost_model : World → Placed → Option Name
lost_model w m = lost_object w m.object

-- the object that dangles behind a model that an audit's query names, the first by rank and name
abbrev pub lost_by : World → List Placed → Audit → Option Name
lost_by w all a = first_of (map (lost_model w) (asked all a.query))

-- the first in the order of the audits
abbrev pub lost_for : Plan → List Audit → World → Option Name
lost_for p audits w = first_of (map (lost_by w (placed p.project.nodes p.entries)) audits)
