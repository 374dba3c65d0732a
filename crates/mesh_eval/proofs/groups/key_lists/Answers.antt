use Rattle.std.proofs.Common.{refl, ◌∙◌}
use Rattle.std.proofs.lemmas.Result.{IfOk-weaker}
use Rattle.mesh_eval.proofs.Placed.{key_rows}
use Rattle.mesh_eval.proofs.groups.key_lists.Goals as goal

pub returns : goal.returns
returns c =
    IfOk-weaker c.flat_values.result _ _
    (λ made e. e ∙ key_rows c.args.u c.args.columns.now c.args.keys.now c.args.keys.now c.in_ok-keys.keys c.as_slice.result.now (λ row. row) c.args.rows.now.rows refl c.as_slice.ensures c.in_ok-keys.ensures)
    c.flat_values.ensures
