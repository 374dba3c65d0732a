use Rattle.std.proofs.Common.{◌++◌, List, ap, ◌∙◌}
use Rattle.mesh_base_values.specs.declared.values.Cell.{Cell}
use Rattle.mesh_base.specs.declared.plans.Due.{Due}
use Rattle.mesh_exec_works.specs.Plain.{model_of}
use Rattle.mesh_exec_works.specs.Written.{written}
use Rattle.mesh_exec.proofs.More.{one_behind}
use Rattle.mesh_exec.proofs.fills.push_each.Goals as goal

pub loop-due-preserved : goal.loop-due-preserved
loop-due-preserved c =
    let m = model_of c.args.node.now c.args.entry.now in
    let due = c.due-item.result in
    one_behind (λ (d : Due). written m m.node.own.kind d c.args.rows.now) c.args.changes.now c.args.dues.now c.loop-due.due-index due c.loop-due.changes _ c.loop-due-test.true c.due-item.is c.loop-due.invariant
    (c.in_ok-push_written.ensures ∙ ap (λ (rows : List (List Cell)). c.loop-due.changes ++ written m m.node.own.kind due rows) c.in_ok-copy.ensures)
