use Rattle.std.proofs.Common.{◌≡◌, take}
use Rattle.std.specs.List.{flat_map}
use Rattle.std.specs.Option.{option_copied}
use Rattle.mesh_lineage.specs.Unsteady.{least, selects_breakers}
use Rattle.mesh_lineage.specs.Reaches.{may_read_links, near_links}
use Rattle.mesh_lineage.proofs.breakers.ctes_breaker.Given as goal

abbrev pub invariant-loop-c : goal.invariant-loop-c
invariant-loop-c l = option_copied l.found ≡ least (flat_map (selects_breakers (may_read_links l.links.sources (near_links l.links.parents))) (take l.c-index l.ctes))
