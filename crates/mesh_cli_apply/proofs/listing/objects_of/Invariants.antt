use Rattle.std.proofs.Common.{◌≡◌, take, map}
use Rattle.mesh_cli_apply.specs.Listing.{object_of}
use Rattle.mesh_cli_apply.proofs.listing.objects_of.Given as goal

abbrev pub invariant-loop-target : goal.invariant-loop-target
invariant-loop-target l = l.made ≡ map object_of (take l.target-index l.targets)
