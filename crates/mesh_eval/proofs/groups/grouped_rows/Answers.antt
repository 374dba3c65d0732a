use Rattle.std.proofs.Common.{◌∙◌}
use Rattle.std.proofs.lemmas.Result.{IfOk-weaker}
use Rattle.std.specs.List.{flat_map}
use Rattle.mesh_spec_query.specs.Sel.{groups}
use Rattle.mesh_eval.proofs.groups.grouped_rows.Goals as goal

pub returns : goal.returns
returns c =
    IfOk-weaker c.rows_of_groups.result _ _
    (λ made e. e ∙ (λ i. flat_map (λ g. c.in_ok-o.ensures g i) (groups c.args.u c.args.columns.now c.args.q.now.keys c.args.rows.now.rows)))
    c.rows_of_groups.ensures
