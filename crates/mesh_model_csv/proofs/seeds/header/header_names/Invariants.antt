use Rattle.std.proofs.Common.{◌≡◌, take, map}
use Rattle.mesh_model_csv.specs.seeds.Headers.{lowered}
use Rattle.mesh_model_csv.proofs.seeds.header.header_names.Given as goal

abbrev pub invariant-loop-i : goal.invariant-loop-i
invariant-loop-i l = l.names ≡ map lowered (take l.i l.header)
