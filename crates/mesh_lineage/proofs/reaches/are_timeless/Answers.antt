use Rattle.std.proofs.Common.{◌&&◌, ap₂, sym, ◌∙◌}
use Rattle.mesh_lineage.proofs.Places.{timeless_more}
use Rattle.mesh_lineage.proofs.reaches.are_timeless.Goals as goal

pub loop-place-preserved : goal.loop-place-preserved
loop-place-preserved c =
    c.both_hold-each.ensures ∙ ap₂ ◌&&◌ c.loop-place.invariant c.is_timeless_at.ensures
    ∙ sym (timeless_more c.args.reaches.now c.args.places.now c.loop-place.place-index 0 c.loop-place-test.true)
