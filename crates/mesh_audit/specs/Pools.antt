-- The tables that were read last, and for which queries they serve.
use Rattle.std.specs.Prelude.{◌≡◌, ℕ, if◌then◌else◌, List, map, Some}
use Rattle.std.specs.declared.option.Option.{Option}
use Rattle.mesh_base_values.specs.declared.values.Name.{Name}
use Rattle.mesh_base.specs.declared.jobs.Input.{Input}
use Rattle.mesh_base.specs.declared.queries.Query.{Query}
use Rattle.mesh_house.specs.declared.world.World.{World}
use Rattle.mesh_audit.specs.declared.tables.Model.{Model}
use Rattle.mesh_audit.specs.declared.tables.Pool.{Pool}
use Rattle.mesh_audit.specs.Audited.{Placed, asked_tables, is_asked, lost_model, shown_table}

-- a model of a plan beside its object
abbrev pub plain : Model → Placed
plain m = record { node = m.node.now; object = m.entry.now.object }

abbrev pub shown_model : World → Model → Option Input
shown_model w m = shown_table w (plain m)

abbrev pub lost_shown : World → Model → Option Name
lost_shown w m = lost_model w (plain m)

-- a mark for each model: 1 where a query names it
abbrev pub mark : Query → Placed → ℕ
mark q m = if is_asked q m then 1 else 0

abbrev pub marks : Query → List Placed → List ℕ
marks q all = map (mark q) all

-- the tables of a pool are those of each query that names just the models with a mark
abbrev pub Serves : World → List Placed → Pool → Type 0
Serves w all pool = (q : Query) → marks q all ≡ pool.marks → asked_tables w all q ≡ Some pool.tables
