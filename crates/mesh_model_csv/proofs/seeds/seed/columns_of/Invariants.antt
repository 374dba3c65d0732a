use Rattle.std.proofs.Common.{◌≡◌}
use Rattle.mesh_model_csv.specs.seeds.Seeds.{columns_of}
use Rattle.mesh_model_csv.proofs.seeds.RowSteps.{columns_from}
use Rattle.mesh_model_csv.proofs.seeds.seed.columns_of.Given as goal

abbrev pub invariant-loop-i : goal.invariant-loop-i
invariant-loop-i l = columns_from l.names l.kinds l.i l.columns ≡ columns_of l.names l.kinds
