use Rattle.std.proofs.Common.{◌≡◌, take}
use Rattle.mesh_model_csv.specs.seeds.Headers.{is_among}
use Rattle.mesh_model_csv.proofs.seeds.header.is_among.Given as goal

abbrev pub invariant-loop-other : goal.invariant-loop-other
invariant-loop-other l = l.found ≡ is_among (take l.other-index l.names) l.name
