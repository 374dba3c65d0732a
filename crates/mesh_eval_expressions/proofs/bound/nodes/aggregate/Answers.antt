use Rattle.mesh_eval_expressions.proofs.bound.Parts.{agg_means}
use Rattle.mesh_eval_expressions.proofs.bound.nodes.aggregate.Goals as goal

pub returns : goal.returns
returns c f h = agg_means c.args.kind c.args.value c.in_ok-value.value f c.in_ok-value.ensures h
