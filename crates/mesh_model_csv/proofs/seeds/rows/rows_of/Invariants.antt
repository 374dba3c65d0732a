use Rattle.std.proofs.Common.{◌≡◌, take, map}
use Rattle.mesh_model_csv.specs.seeds.Cells.{row_of}
use Rattle.mesh_model_csv.proofs.seeds.rows.rows_of.Given as goal

abbrev pub invariant-loop-record : goal.invariant-loop-record
invariant-loop-record l = l.rows ≡ map (row_of l.kinds) (take l.record-index l.records)
