use Rattle.std.proofs.Common.{◌≡◌, map, take}
use Rattle.mesh_lineage.specs.Reaches.{source_link}
use Rattle.mesh_lineage.proofs.breakers.source_links.Given as goal

abbrev pub invariant-loop-d : goal.invariant-loop-d
invariant-loop-d l = l.made.items ≡ map source_link (take l.d-index l.sources)
