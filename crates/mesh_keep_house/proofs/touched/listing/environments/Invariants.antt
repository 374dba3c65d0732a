use Rattle.std.proofs.Common.{◌≡◌, take, map}
use Rattle.mesh_keep_house.specs.touched.Touched.{env_thing}
use Rattle.mesh_keep_house.proofs.touched.listing.environments.Given as goal

abbrev pub invariant-loop-env : goal.invariant-loop-env
invariant-loop-env l = l.made ≡ map env_thing (take l.env-index l.list)
