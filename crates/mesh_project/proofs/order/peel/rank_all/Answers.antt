use Rattle.std.proofs.Common.{take, ap, ◌∙◌, sym, set}
use Rattle.std.proofs.lemmas.List.{take_more}
use Rattle.std.specs.Prelude.{slice_index}
use Rattle.mesh_project.specs.order.Peeled.{ranks_with}
use Rattle.mesh_project.proofs.order.Numbers.{ranks_with-push}
use Rattle.mesh_project.proofs.order.peel.rank_all.Goals as goal

pub loop-at-preserved : goal.loop-at-preserved
loop-at-preserved c =
    let ready = c.args.ready.now in
    let at = slice_index ready c.loop-at.at-index in
    c.set_rank.ensures
    ∙ ap (λ r. set r at c.args.rank) c.loop-at.invariant
    ∙ sym (ranks_with-push c.args.ranks.now.items (take c.loop-at.at-index ready) at c.args.rank)
    ∙ ap (λ l. ranks_with c.args.ranks.now.items l c.args.rank) (sym (take_more ready c.loop-at.at-index 0 c.loop-at-test.true))
