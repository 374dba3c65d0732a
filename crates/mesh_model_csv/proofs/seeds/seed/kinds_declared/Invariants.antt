use Rattle.std.proofs.Common.{◌≡◌, take}
use Rattle.mesh_model_csv.specs.seeds.Seeds.{kinds_declared}
use Rattle.mesh_model_csv.proofs.seeds.seed.kinds_declared.Given as goal

abbrev pub invariant-loop-name : goal.invariant-loop-name
invariant-loop-name l = l.kinds ≡ kinds_declared l.columns (take l.name-index l.names)
