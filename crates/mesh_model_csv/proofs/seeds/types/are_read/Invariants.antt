use Rattle.std.proofs.Common.{◌≡◌, take}
use Rattle.mesh_model_csv.specs.seeds.Cells.{are_read}
use Rattle.mesh_model_csv.proofs.seeds.types.are_read.Given as goal

abbrev pub invariant-loop-record : goal.invariant-loop-record
invariant-loop-record l = l.read ≡ are_read l.kind l.column (take l.record-index l.records)
