use Rattle.std.proofs.Common.{◌≡◌, take}
use Rattle.mesh_lineage.specs.Reaches.{near_links, parent_links, reaches_at}
use Rattle.mesh_lineage.proofs.breakers.parent_links.Given as goal

abbrev pub invariant-loop-place : goal.invariant-loop-place
invariant-loop-place l = near_links l.made.items ≡ parent_links (reaches_at l.reaches (take l.place-index l.places))
