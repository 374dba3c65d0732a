use Rattle.std.proofs.Common.{sym, ap, ap₂, ◌∙◌}
use Rattle.mesh_lineage.specs.Unsteady.{least, lesser, selects_breakers}
use Rattle.mesh_lineage.specs.Reaches.{may_read_links, near_links}
use Rattle.mesh_lineage.proofs.Broken.{ctes_more}
use Rattle.mesh_lineage.proofs.breakers.ctes_breaker.Goals as goal

pub loop-c-preserved : goal.loop-c-preserved
loop-c-preserved c =
    let may = may_read_links c.args.links.now.sources (near_links c.args.links.now.parents) in
    c.lesser-found.ensures
    ∙ ap₂ lesser c.loop-c.invariant (c.in_ok-selects_breaker.ensures ∙ ap (λ l. least (selects_breakers may l)) (c.as_slice.ensures ∙ c.c-item.is))
    ∙ sym (ctes_more may c.args.ctes.now c.loop-c.c-index c.c-item.result c.loop-c-test.true)
