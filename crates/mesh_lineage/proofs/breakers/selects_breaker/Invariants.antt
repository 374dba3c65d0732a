use Rattle.std.proofs.Common.{◌≡◌, take}
use Rattle.std.specs.Option.{option_copied}
use Rattle.mesh_lineage.specs.Unsteady.{least, selects_breakers}
use Rattle.mesh_lineage.specs.Reaches.{may_read_links, near_links}
use Rattle.mesh_lineage.proofs.breakers.selects_breaker.Given as goal

abbrev pub invariant-loop-s : goal.invariant-loop-s
invariant-loop-s l = option_copied l.found ≡ least (selects_breakers (may_read_links l.links.sources (near_links l.links.parents)) (take l.s-index l.selects))
