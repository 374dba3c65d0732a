use Rattle.std.proofs.Common.{◌++◌, sym, ap, ◌∙◌}
use Rattle.std.proofs.lemmas.List.{append-nil, take_all}
use Rattle.std.specs.List.{flat_map}
use Rattle.mesh_project.specs.nodes.Reads.{join_reads, rel_reads}
use Rattle.mesh_project.proofs.nodes.Loops.{one_more_behind}
use Rattle.mesh_project.proofs.nodes.reads.add_joins.Goals as goal

pub loop-join-preserved : goal.loop-join-preserved
loop-join-preserved c =
    one_more_behind join_reads c.args.names.now c.loop-join.names c.add_rel.new.names c.args.joins.now c.loop-join.join-index c.join-item.result
    c.loop-join-test.true c.join-item.is c.loop-join.invariant (c.in_ok-add_rel.ensures ∙ ap (λ r. c.loop-join.names ++ rel_reads r) c.join_rel.ensures)

pub loop-join-init : goal.loop-join-init
loop-join-init c = sym (append-nil c.args.names.now)

pub returns : goal.returns
returns c = c.loop-join.invariant ∙ ap (λ l. c.args.names.now ++ flat_map join_reads l) (take_all c.loop-join.join-index c.args.joins.now c.loop-join-test.false)
