use Rattle.std.proofs.Common.{sym, ap, ◌∙◌, map}
use Rattle.mesh_base_values.specs.declared.values.Column.{Column}
use Rattle.mesh_layer.specs.Places.{are_in_order, are_wide}
use Rattle.mesh_layer.proofs.Placing.{picked_themselves, rows_at-places_of}
use Rattle.mesh_layer.proofs.sources.picked_rows.Goals as goal

pub returns-then-are_wide : goal.returns-then-are_wide
returns-then-are_wide c =
    picked_themselves (map (λ (d : Column). d.name) c.args.declared.now) c.args.columns.now c.args.rows c.in_ok-places.places.items c.len.result c.in_ok-places.ensures (c.len.ensures ∙ c.in_ok-places.places.ok.0)
    (ap (are_in_order 0) (sym c.as_slice.ensures.value) ∙ sym c.are_in_order.ensures ∙ c.if-are_in_order.true)
    (ap (are_wide c.len.result) (sym c.as_slice-then-are_in_order.ensures) ∙ sym c.are_wide.ensures ∙ c.if-are_wide.true)

pub returns : goal.returns
returns c = rw (← rows_at-places_of (map (λ (d : Column). d.name) c.args.declared.now) c.args.columns.now c.args.rows, ← c.in_ok-places.ensures, ← c.as_slice-3.ensures.value, ← c.as_slice-2.ensures) c.rows_at.ensures
