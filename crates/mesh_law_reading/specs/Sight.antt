-- What a query may read, as relations.
use Rattle.std.specs.Prelude.{List, ◌++◌, map}
use Rattle.mesh_base.specs.declared.jobs.Input.{Input}
use Rattle.mesh_base.specs.declared.rules.relations.Relation.{Relation}
use Rattle.mesh_base.specs.rules.Relations.{source_relation}
use Rattle.mesh_resolve.specs.declared.known.Known.{Known}

abbrev pub model_relation : Input → Relation
model_relation m = record { name = m.name; columns = m.columns }

-- the models, and behind them the declared sources
abbrev pub known_relations : Known → List Relation
known_relations known = map model_relation known.models ++ map source_relation known.sources
