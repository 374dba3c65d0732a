use Rattle.std.proofs.Common.{◌∙◌}
use Rattle.std.proofs.lemmas.Result.{IfOk-weaker}
use Rattle.mesh_eval.specs.Placed.{output_row}
use Rattle.mesh_eval.proofs.Picked.{groups-by_key}
use Rattle.mesh_eval.proofs.groups.rows_by_key.Goals as goal

pub returns : goal.returns
returns c =
    IfOk-weaker c.indexed_groups.result _ _
    (λ made e. e ∙ groups-by_key (output_row c.args.o.now) c.args.u c.args.columns.now c.args.q.now.keys c.as_slice.result.now c.args.rows.now.rows c.in_ok-keys.keys.rows c.in_ok-index.index
    c.in_ok-index.ensures c.in_ok-keys.ensures c.as_slice.ensures)
    c.indexed_groups.ensures
