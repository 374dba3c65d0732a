use Rattle.std.proofs.Common.{◌≡◌, ◌+◌, Some, length, refl, arith}
use Rattle.std.specs.List.{slice_get}
use Rattle.std.proofs.lemmas.Option.{slice_get_read}
use Rattle.mesh_base.specs.declared.snapshots.Node.{Node}
use Rattle.mesh_plan.specs.Entries.{IsRecorded}
use Rattle.mesh_plan.proofs.Runs.{one_more_zip}
use Rattle.mesh_plan.proofs.running.kept_entries.Goals as goal

pub loop-node-preserved : goal.loop-node-preserved
loop-node-preserved c =
    let nodes = c.args.nodes.now in
    let n : Node = c.node-item.result in
    let is : slice_get nodes c.loop-node.node-index ≡ Some n = slice_get_read nodes (length nodes) c.loop-node.node-index n refl c.loop-node-test.true c.node-item.is in
    one_more_zip (IsRecorded c.args.b.now) nodes c.loop-node.node-index (c.loop-node.node-index + 1) n c.loop-node.entries c.push.new.self c.in_ok-kept_entry.field-0 (omega arith) is
    c.loop-node.invariant c.in_ok-kept_entry.ensures c.in_ok-push.ensures.ok
