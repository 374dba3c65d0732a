use Rattle.std.proofs.Common.{◌≡◌, drop, map}
use Rattle.mesh_base.specs.rules.Relations.{relation_columns, source_relation}
use Rattle.mesh_house_book.proofs.seen.source_columns.Given as goal

abbrev pub invariant-loop-source : goal.invariant-loop-source
invariant-loop-source l = relation_columns (map source_relation (drop l.source-index l.sources)) l.name ≡ relation_columns (map source_relation l.sources) l.name
