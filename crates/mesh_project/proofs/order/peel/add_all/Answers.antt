use Rattle.std.proofs.Common.{◌++◌, map, sym, ap, ◌∙◌}
use Rattle.std.proofs.lemmas.List.{append-nil, take_all}
use Rattle.mesh_project.specs.order.Peeled.{at_rank}
use Rattle.mesh_project.proofs.nodes.Loops.{one_number_made}
use Rattle.mesh_project.proofs.order.peel.add_all.Goals as goal

pub loop-at-preserved : goal.loop-at-preserved
loop-at-preserved c =
    one_number_made (at_rank c.args.rank) c.args.order.now c.loop-at.order c.push.new.self c.args.ready.now c.loop-at.at-index c.loop-at-test.true c.loop-at.invariant c.in_ok-push.ensures.ok

pub loop-at-init : goal.loop-at-init
loop-at-init c = sym (append-nil c.args.order.now)

pub returns : goal.returns
returns c = c.loop-at.invariant ∙ ap (λ l. c.args.order.now ++ map (at_rank c.args.rank) l) (take_all c.loop-at.at-index c.args.ready.now c.loop-at-test.false)
