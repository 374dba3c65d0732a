use Rattle.std.proofs.Common.{sym, ◌∙◌, ap}
use Rattle.mesh_spec_query.specs.Tables.{relation}
use Rattle.mesh_eval.proofs.tables.relation.Goals as goal

pub returns-in-Named : goal.returns-in-Named
returns-in-Named c = c.named.ensures ∙ ap (relation c.args.inputs.now c.args.ctes.now) (sym c.in-Named.is)

pub returns-in-Cte : goal.returns-in-Cte
returns-in-Cte c = c.cte.ensures ∙ ap (relation c.args.inputs.now c.args.ctes.now) (sym c.in-Cte.is)
