use Rattle.std.proofs.Common.{sym, ap, ◌∙◌}
use Rattle.std.specs.List.{list_all}
use Rattle.mesh_resolve_selects.specs.outputs.Sides.{are_sides_alike}
use Rattle.mesh_resolve_selects.proofs.outputs.Tests.{all_go_on, all_passed, one_fails}
use Rattle.mesh_resolve_selects.proofs.outputs.sides.are_all_alike.Goals as goal

pub returns-then-not-are_sides_alike : goal.returns-then-not-are_sides_alike
returns-then-not-are_sides_alike c =
    one_fails are_sides_alike c.args.ctes.now c.loop-c.c-index (list_all are_sides_alike c.args.ctes.now) c.c-item.result c.loop-c-test.true c.c-item.is
    (sym (c.are_sides_alike.ensures ∙ ap are_sides_alike c.as_slice.ensures) ∙ c.if-not-are_sides_alike.true) c.loop-c.invariant

pub loop-c-preserved : goal.loop-c-preserved
loop-c-preserved c =
    all_go_on are_sides_alike c.args.ctes.now c.loop-c.c-index (list_all are_sides_alike c.args.ctes.now) c.c-item.result c.loop-c-test.true c.c-item.is
    (sym (c.are_sides_alike.ensures ∙ ap are_sides_alike c.as_slice.ensures) ∙ c.if-not-are_sides_alike.false) c.loop-c.invariant

pub returns : goal.returns
returns c = all_passed are_sides_alike c.args.ctes.now c.loop-c.c-index (list_all are_sides_alike c.args.ctes.now) c.loop-c-test.false c.loop-c.invariant
