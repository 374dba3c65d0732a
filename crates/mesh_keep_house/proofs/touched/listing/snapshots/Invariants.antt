use Rattle.std.proofs.Common.{◌≡◌, take, map}
use Rattle.mesh_keep_house.specs.touched.Touched.{snapshot_thing}
use Rattle.mesh_keep_house.proofs.touched.listing.snapshots.Given as goal

abbrev pub invariant-loop-s : goal.invariant-loop-s
invariant-loop-s l = l.made ≡ map snapshot_thing (take l.s-index l.list)
