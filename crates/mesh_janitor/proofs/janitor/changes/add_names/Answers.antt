use Rattle.std.proofs.Common.{◌∙◌, arith}
use Rattle.mesh_base.specs.Keys.{ref_name}
use Rattle.mesh_janitor.proofs.janitor.Used.{one_earlier}
use Rattle.mesh_janitor.proofs.janitor.changes.add_names.Goals as goal

pub loop-left-preserved : goal.loop-left-preserved
loop-left-preserved c =
    let so_far = c.loop-left.invariant in
    (omega arith, c.in_ok-place_copy.ensures ∙ one_earlier ref_name c.args.refs.now c.loop-left.left c.index-refs-left.result c.loop-left.names _ c.loop-left-test.true so_far.0 so_far.1)
