use Rattle.std.proofs.Common.{sym, ap, ◌∙◌}
use Rattle.std.specs.List.{list_any}
use Rattle.mesh_resolve_selects.specs.groups.Grouping.{has_aggregate}
use Rattle.mesh_resolve_selects.specs.selects.Standing.{output_has_aggregate}
use Rattle.mesh_resolve_selects.proofs.outputs.Tests.{none_found, none_yet, one_found}
use Rattle.mesh_resolve_selects.proofs.selects.grouping.some_has_aggregate.Goals as goal

pub returns-then-has_aggregate : goal.returns-then-has_aggregate
returns-then-has_aggregate c =
    one_found output_has_aggregate c.args.outputs.now c.loop-o.o-index (list_any output_has_aggregate c.args.outputs.now) c.o-item.result c.loop-o-test.true c.o-item.is
    (sym (c.has_aggregate.ensures ∙ ap has_aggregate c.get.ensures) ∙ c.if-has_aggregate.true) c.loop-o.invariant

pub loop-o-preserved : goal.loop-o-preserved
loop-o-preserved c =
    none_yet output_has_aggregate c.args.outputs.now c.loop-o.o-index (list_any output_has_aggregate c.args.outputs.now) c.o-item.result c.loop-o-test.true c.o-item.is
    (sym (c.has_aggregate.ensures ∙ ap has_aggregate c.get.ensures) ∙ c.if-has_aggregate.false) c.loop-o.invariant

pub returns : goal.returns
returns c = none_found output_has_aggregate c.args.outputs.now c.loop-o.o-index (list_any output_has_aggregate c.args.outputs.now) c.loop-o-test.false c.loop-o.invariant
