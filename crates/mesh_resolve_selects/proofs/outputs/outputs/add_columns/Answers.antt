use Rattle.std.proofs.Common.{[], ◌∷◌, ◌++◌, map, sym, ap, ◌∙◌}
use Rattle.std.proofs.lemmas.List.{append-nil, take_all}
use Rattle.mesh_resolve_selects.specs.outputs.Outputs.{starred}
use Rattle.mesh_resolve_selects.proofs.outputs.Loops.{one_made}
use Rattle.mesh_resolve_selects.proofs.outputs.outputs.add_columns.Goals as goal

pub loop-c-preserved : goal.loop-c-preserved
loop-c-preserved c =
    one_made (starred c.args.at c.args.d.now) c.args.done.now c.loop-c.done c.push.new.self c.as_slice-c-items.result.now c.loop-c.c-index c.c-item.result
    c.loop-c-test.true c.c-item.is c.loop-c.invariant (c.in_ok-push.ensures.ok ∙ ap (λ o. c.loop-c.done ++ o ∷ []) c.in_ok-starred.ensures)

pub loop-c-init : goal.loop-c-init
loop-c-init c = sym (append-nil c.args.done.now)

pub returns : goal.returns
returns c =
    c.loop-c.invariant
    ∙ ap (λ l. c.args.done.now ++ map (starred c.args.at c.args.d.now) l) (take_all c.loop-c.c-index c.as_slice-c-items.result.now c.loop-c-test.false ∙ c.as_slice-c-items.ensures)
