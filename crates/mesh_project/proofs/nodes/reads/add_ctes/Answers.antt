use Rattle.std.proofs.Common.{◌++◌, sym, ap, ◌∙◌}
use Rattle.std.proofs.lemmas.List.{append-nil, take_all}
use Rattle.std.specs.List.{flat_map}
use Rattle.mesh_project.specs.nodes.Reads.{cte_reads}
use Rattle.mesh_project.proofs.nodes.Loops.{one_more_behind}
use Rattle.mesh_project.proofs.nodes.reads.add_ctes.Goals as goal

pub loop-cte-preserved : goal.loop-cte-preserved
loop-cte-preserved c =
    one_more_behind cte_reads c.args.names.now c.loop-cte.names c.add_union.new.names c.args.ctes.now c.loop-cte.cte-index c.cte-item.result
    c.loop-cte-test.true c.cte-item.is c.loop-cte.invariant c.in_ok-add_union.ensures

pub loop-cte-init : goal.loop-cte-init
loop-cte-init c = sym (append-nil c.args.names.now)

pub returns : goal.returns
returns c = c.loop-cte.invariant ∙ ap (λ l. c.args.names.now ++ flat_map cte_reads l) (take_all c.loop-cte.cte-index c.args.ctes.now c.loop-cte-test.false)
