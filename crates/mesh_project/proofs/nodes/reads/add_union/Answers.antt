use Rattle.std.proofs.Common.{◌++◌, sym, ap, ◌∙◌}
use Rattle.std.proofs.lemmas.List.{append-nil, take_all}
use Rattle.std.specs.List.{flat_map}
use Rattle.mesh_project.specs.nodes.Reads.{select_reads}
use Rattle.mesh_project.proofs.nodes.Loops.{one_more_behind}
use Rattle.mesh_project.proofs.nodes.reads.add_union.Goals as goal

pub loop-select-preserved : goal.loop-select-preserved
loop-select-preserved c =
    one_more_behind select_reads c.args.names.now c.loop-select.names c.add_select.new.names c.as_slice-select-items.result.now c.loop-select.select-index c.select-item.result
    c.loop-select-test.true c.select-item.is c.loop-select.invariant c.in_ok-add_select.ensures

pub loop-select-init : goal.loop-select-init
loop-select-init c = sym (append-nil c.args.names.now)

pub returns : goal.returns
returns c =
    let all = c.as_slice-select-items.result.now in
    c.loop-select.invariant ∙ ap (λ l. c.args.names.now ++ flat_map select_reads l) (take_all c.loop-select.select-index all c.loop-select-test.false ∙ c.as_slice-select-items.ensures)
