use Rattle.std.proofs.Common.{◌≡◌, ◌++◌, OnOk, sym, subst, ◌∙◌}
use Rattle.mesh_resolve_selects.specs.groups.Grouping.{placed}
use Rattle.mesh_resolve_selects.proofs.groups.Parts.{then_put}
use Rattle.mesh_resolve_selects.proofs.groups.Placed.{placed_again, placed_when_is}
use Rattle.mesh_resolve_selects.proofs.groups.places.+places.Goals as goal

pub place_part-returns-clause-placed : goal.place_part-returns-clause-placed
place_part-returns-clause-placed t c =
    subst (λ free. OnOk c.place_parts-2.result (c.place_parts-2.new.breaches ≡ c.args.breaches.now ++ placed c.args.keys.now c.args.e.now free)) (sym c.if-free.false)
    (placed_again c.place_parts-2.result c.args.keys.now c.args.e.now c.len-start.result c.args.breaches.now _ c.place_parts.new.breaches c.cut.new.breaches c.place_parts-2.new.breaches
    (sym c.is_key.ensures ∙ c.if-not-is_key.false) c.len-start.ensures c.in_ok-after.ensures.placed c.cut.ensures c.place_parts-2.ensures.placed)

pub place_when-returns-clause-placed : goal.place_when-returns-clause-placed
place_when-returns-clause-placed t c =
    then_put c.place_part-2.result c.args.breaches.now _ c.place_part-2.new.breaches _ _ _ c.in_ok-count.ensures.placed c.place_part-2.ensures.placed
    (sym (placed_when_is c.args.keys.now c.args.w.now c.args.free))
