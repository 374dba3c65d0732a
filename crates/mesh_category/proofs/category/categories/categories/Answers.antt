use Rattle.mesh_category.specs.category.Stated.{AddsAmong, IsCategoryAmong, stated}
use Rattle.mesh_category.proofs.category.Stand.{one_more}
use Rattle.mesh_category.proofs.category.categories.categories.Goals as goal

pub loop-at-preserved : goal.loop-at-preserved
loop-at-preserved c = record {
  adds = rw c.in_ok-push_answers.ensures.0
      (one_more (AddsAmong (stated c.args.olds.now)) c.args.news.now c.loop-at.at c.loop-at.adds.items c.category_at-is.result.0 c.loop-at-test.true c.loop-at.invariant.adds c.category_at-is.ensures.adds);
  made = rw c.in_ok-push_answers.ensures.1
      (one_more (IsCategoryAmong (stated c.args.olds.now)) c.args.news.now c.loop-at.at c.loop-at.made c.category_at-is.result.1 c.loop-at-test.true c.loop-at.invariant.made c.category_at-is.ensures.category);
}
