use Rattle.std.proofs.Common.{◌++◌, ap, sym, ◌∙◌, get_or}
use Rattle.std.specs.List.{slice_get}
use Rattle.std.specs.Option.{option_to_list}
use Rattle.mesh_lineage.specs.Reaches.{parent_links}
use Rattle.mesh_lineage.proofs.Places.{links_more}
use Rattle.mesh_lineage.proofs.breakers.parent_links.Goals as goal

pub loop-place-preserved : goal.loop-place-preserved
loop-place-preserved c =
    c.in_ok-add_link.ensures
    ∙ ap (λ l. l ++ parent_links (option_to_list (slice_get c.args.reaches.now (get_or c.args.places.now c.loop-place.place-index 0)))) c.loop-place.invariant
    ∙ sym (links_more c.args.reaches.now c.args.places.now c.loop-place.place-index 0 c.loop-place-test.true)
