use Rattle.std.proofs.Common.{sym, subst}
use Rattle.mesh_layer.specs.Read.{AreKnown}
use Rattle.mesh_layer.proofs.Asking.{object_lost, shows}
use Rattle.mesh_layer.proofs.Finding.{answers, part_fails, stays}
use Rattle.mesh_layer.proofs.Heights.{rows_higher}
use Rattle.mesh_layer.proofs.Reading.{nothing_known}
use Rattle.mesh_layer.proofs.shown.object_rows.Goals as goal

pub returns-in_err-rows : goal.returns-in_err-rows
returns-in_err-rows g c =
    shows _ _ _ _ _ (object_lost c.args.name.now)
    (part_fails _ _ _ _ _ _ _ _ _ c.in_err-rows.field-0.0 c.from_residual.result (stays _) c.in_err-rows.ensures.finds c.from_residual.ensures.1
    (λ w told plain. (record { plain = plain; kept = subst (AreKnown w) (sym c.new-known.ensures) (nothing_known w) }, λ o is. is)))

pub returns : goal.returns
returns g c =
    let there = c.in_ok-rows.ensures.finds in
    shows _ _ _ _ _ (object_lost c.args.name.now)
    (answers _ _ _ _ _ _ there.untouched (λ w told plain.
    rows_higher w _ 4096 c.in_ok-rows.ensures.height c.args.name.now _ (there.ok w told (record { plain = plain; kept = subst (AreKnown w) (sym c.new-known.ensures) (nothing_known w) })).1))
