use Rattle.mesh_project.proofs.order.Peeling.{starts, goes_on, shrinks, ends_stuck}
use Rattle.mesh_project.proofs.order.peel.peel_all.Goals as goal

pub each_rank-init : goal.each_rank-init
each_rank-init c = starts c.args.models.now c.args.links.now c.requires.links c.args.by_name _ c.requires.by_name c.in_ok-peeled.ensures

pub returns-then-not-branch : goal.returns-then-not-branch
returns-then-not-branch c =
    ends_stuck c.args.models.now c.args.links.now c.requires.links c.each_rank.peeled c.peel_one.new.peeled c.each_rank.rank _ c.if-not-branch.true c.each_rank.invariant c.in_ok-peel_one.ensures

pub each_rank-smaller : goal.each_rank-smaller
each_rank-smaller c = shrinks c.args.models.now c.args.links.now c.requires.links c.each_rank.peeled c.peel_one.new.peeled c.each_rank.rank _ c.if-not-branch.false c.in_ok-peel_one.ensures

pub each_rank-preserved : goal.each_rank-preserved
each_rank-preserved c =
    goes_on c.args.models.now c.args.links.now c.requires.links c.each_rank.peeled c.peel_one.new.peeled c.each_rank.rank _ c.if-not-branch.false c.each_rank.invariant c.in_ok-peel_one.ensures
