use Rattle.std.proofs.Common.{◌≡◌, take}
use Rattle.std.specs.Option.{option_copied}
use Rattle.mesh_lineage.specs.Unsteady.{items_breakers, least}
use Rattle.mesh_lineage.specs.Reaches.{may_read_links, near_links}
use Rattle.mesh_lineage.proofs.breakers.items_breaker.Given as goal

abbrev pub invariant-loop-i : goal.invariant-loop-i
invariant-loop-i l = option_copied l.found ≡ least (items_breakers (may_read_links l.links.sources (near_links l.links.parents)) l.s.select.now 0 (take l.i l.s.select.now.from))
