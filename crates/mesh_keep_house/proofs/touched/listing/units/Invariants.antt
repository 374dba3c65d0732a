use Rattle.std.proofs.Common.{◌≡◌, take, map}
use Rattle.mesh_keep_house.specs.touched.Touched.{forget_thing}
use Rattle.mesh_keep_house.proofs.touched.listing.units.Given as goal

abbrev pub invariant-loop-forget : goal.invariant-loop-forget
invariant-loop-forget l = l.made ≡ map forget_thing (take l.forget-index l.list)
