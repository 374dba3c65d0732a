use Rattle.std.proofs.Common.{◌≡◌}
use Rattle.mesh_model_csv.specs.seeds.Seeds.{kinds_found}
use Rattle.mesh_model_csv.proofs.seeds.RowSteps.{kinds_from}
use Rattle.mesh_model_csv.proofs.seeds.seed.kinds_found.Given as goal

abbrev pub invariant-loop-i : goal.invariant-loop-i
invariant-loop-i l = kinds_from l.names l.records l.i l.kinds ≡ kinds_found 0 l.names l.records
