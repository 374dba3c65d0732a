use Rattle.std.proofs.Common.{ap, sym, take, ◌∙◌}
use Rattle.std.specs.List.{flat_map}
use Rattle.mesh_resolve_scope.specs.sight.Sight.{meant_column}
use Rattle.mesh_resolve_scope.specs.sight.Sole.{sole, sole_of_both}
use Rattle.mesh_resolve_scope.proofs.sight.Soles.{sole_more}
use Rattle.mesh_resolve_scope.proofs.sight.names.meant_in.Goals as goal

pub loop-c-preserved : goal.loop-c-preserved
loop-c-preserved c =
    let columns = c.as_slice-c-items.result.now in
    c.sole_of_both-found.ensures ∙ ap (λ o. sole_of_both o c.meant_column.result) c.loop-c.invariant
    ∙ ap (sole_of_both (sole (flat_map (meant_column c.args.name.now c.args.seen.now) (take c.loop-c.c-index columns)))) c.meant_column.ensures
    ∙ sym (sole_more (meant_column c.args.name.now c.args.seen.now) columns c.loop-c.c-index c.c-item.result c.loop-c-test.true c.c-item.is)
