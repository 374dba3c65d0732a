use Rattle.std.proofs.Common.{ap, map, ◌∙◌}
use Rattle.std.proofs.lemmas.List.{take_all}
use Rattle.mesh_eval_rows.specs.joins.joined.Spots.{cell_at}
use Rattle.mesh_eval_expressions.specs.Frames.{picked}
use Rattle.mesh_eval_expressions.proofs.Steps.{picked_more}
use Rattle.mesh_eval_expressions.proofs.frames.lent_rows.Goals as goal

pub loop-at-preserved : goal.loop-at-preserved
loop-at-preserved c =
    c.in_ok-push.ensures.ok
    ∙ picked_more (cell_at c.args.spot) c.args.group.now.rows.now.rows c.args.group.now.places.now c.loop-at.at-index c.loop-at.made c.lent_at.result c.loop-at-test.true c.loop-at.invariant (c.lent_at.ensures ∙ ap (cell_at c.args.spot) c.get.ensures)

pub returns : goal.returns
returns c = c.loop-at.invariant ∙ ap (λ l. map (cell_at c.args.spot) (picked c.args.group.now.rows.now.rows l)) (take_all c.loop-at.at-index c.args.group.now.places.now c.loop-at-test.false)
