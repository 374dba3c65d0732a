use Rattle.std.proofs.Common.{◌≡◌, ◌+◌, drop}
use Rattle.mesh_model_csv.specs.external.Externals.{point_len}
use Rattle.mesh_model_csv.proofs.external.names.point_len.Given as goal

abbrev pub invariant-loop-i : goal.invariant-loop-i
invariant-loop-i l = l.i + point_len (drop l.i l.field) ≡ point_len l.field
