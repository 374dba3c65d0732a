use Rattle.std.proofs.Common.{◌∙◌}
use Rattle.mesh_category.specs.versions.Standing.{with_one}
use Rattle.mesh_category.proofs.versions.Ranks.{one_more}
use Rattle.mesh_category.proofs.versions.standing.collected.Goals as goal

pub loop-r-preserved : goal.loop-r-preserved
loop-r-preserved c =
    c.in_ok-put.ensures
    ∙ (λ i. with_one (c.find.ensures i) (c.loop-r.invariant i))
    ∙ one_more c.args.b.now.snapshots c.args.list.now c.requires c.loop-r.r-index c.r-item.result c.loop-r-test.true c.r-item.is
