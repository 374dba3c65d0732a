use Rattle.std.proofs.Common.{◌≡◌, ◌&&◌, ◌==◌, length, take}
use Rattle.std.specs.List.{list_all}
use Rattle.mesh_model_csv.specs.seeds.Seeds.{is_declared}
use Rattle.mesh_model_csv.proofs.seeds.seed.are_declared.Given as goal

abbrev pub invariant-loop-name : goal.invariant-loop-name
invariant-loop-name l = l.each ≡ ((length l.columns == length l.names) && list_all (is_declared l.columns) (take l.name-index l.names))
