use Rattle.std.proofs.Common.{◌≡◌, take}
use Rattle.mesh_spec_query.specs.Cells.{coalesce}
use Rattle.mesh_eval_rows.proofs.texts.first_known.Given as goal

abbrev pub invariant-loop-x : goal.invariant-loop-x
invariant-loop-x l = l.first ≡ coalesce (take l.x-index l.x-items)
