use Rattle.std.proofs.Common.{[], ◌∷◌, ◌++◌, ap, ◌∙◌}
use Rattle.mesh_resolve_selects.specs.outputs.Outputs.{resolved_item}
use Rattle.mesh_resolve_selects.proofs.outputs.Loops.{one_given}
use Rattle.mesh_resolve_selects.proofs.outputs.resolved.resolved_items.Goals as goal

pub loop-o-preserved : goal.loop-o-preserved
loop-o-preserved c =
    one_given resolved_item c.loop-o.made c.push.new.self c.loop-o.yielded c.in-Some.o c.loop-o.invariant
    (c.in_ok-push.ensures.ok ∙ ap (λ item. c.loop-o.made ++ item ∷ []) c.resolved_item.ensures)
