use Rattle.std.proofs.Common.{◌≡◌, take}
use Rattle.mesh_layer.specs.Read.{is_target}
use Rattle.mesh_layer.proofs.seen.is_target.Given as goal

abbrev pub invariant-loop-target : goal.invariant-loop-target
invariant-loop-target l = l.found ≡ is_target (take l.target-index l.targets) l.name
