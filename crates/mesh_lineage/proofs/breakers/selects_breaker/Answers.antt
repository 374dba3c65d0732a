use Rattle.std.proofs.Common.{sym, ap, ap₂, ◌∙◌}
use Rattle.mesh_lineage.specs.Unsteady.{least, lesser, select_breakers}
use Rattle.mesh_lineage.specs.Reaches.{may_read_links, near_links}
use Rattle.mesh_lineage.proofs.Broken.{selects_more}
use Rattle.mesh_lineage.proofs.breakers.selects_breaker.Goals as goal

pub loop-s-preserved : goal.loop-s-preserved
loop-s-preserved c =
    let may = may_read_links c.args.links.now.sources (near_links c.args.links.now.parents) in
    c.lesser-found.ensures
    ∙ ap₂ lesser c.loop-s.invariant (c.in_ok-select_breaker.ensures ∙ ap (λ s. least (select_breakers may s)) c.s-item.is)
    ∙ sym (selects_more may c.args.selects.now c.loop-s.s-index c.s-item.result c.loop-s-test.true)
