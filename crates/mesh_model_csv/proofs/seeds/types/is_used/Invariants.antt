use Rattle.std.proofs.Common.{◌≡◌, take}
use Rattle.mesh_model_csv.specs.seeds.Cells.{is_used}
use Rattle.mesh_model_csv.proofs.seeds.types.is_used.Given as goal

abbrev pub invariant-loop-record : goal.invariant-loop-record
invariant-loop-record l = l.used ≡ is_used l.column (take l.record-index l.records)
