use Rattle.std.proofs.Common.{◌∙◌, arith}
use Rattle.mesh_janitor.specs.janitor.Walk.{snapshot_object}
use Rattle.mesh_janitor.proofs.janitor.Used.{one_earlier}
use Rattle.mesh_janitor.proofs.janitor.tables.add_objects.Goals as goal

pub loop-left-preserved : goal.loop-left-preserved
loop-left-preserved c =
    let so_far = c.loop-left.invariant in
    (omega arith, c.in_ok-place_copy.ensures ∙ one_earlier snapshot_object c.args.all.now c.loop-left.left c.index-all-left.result c.loop-left.names _ c.loop-left-test.true so_far.0 so_far.1)
