use Rattle.std.proofs.Common.{◌≡◌, map, ap, ◌∙◌}
use Rattle.mesh_layer.proofs.Finding.{answers, part_fails, stays}
use Rattle.mesh_audit.specs.Audited.{asked}
use Rattle.mesh_audit.specs.Pools.{plain}
use Rattle.mesh_audit.proofs.Serving.{lost_is, serves, tables_are}
use Rattle.mesh_audit.proofs.tables.refill.Goals as goal

pub returns-in_err-tables : goal.returns-in_err-tables
returns-in_err-tables g c =
    let models : map plain c.as_slice.result.now ≡ asked (map plain c.args.all.now) c.args.q.now = ap (map plain) c.as_slice.ensures ∙ c.in_ok-models.ensures in
    part_fails _ _ _ _ _ _ _ _ _ c.in_err-tables.field-0.0 c.from_residual-in_err-tables.result (stays _) c.in_err-tables.ensures c.from_residual-in_err-tables.ensures.1
    (λ w told given. (given.0, λ o is. lost_is w _ _ o models is))

pub returns : goal.returns
returns g c =
    let models : map plain c.as_slice.result.now ≡ asked (map plain c.args.all.now) c.args.q.now = ap (map plain) c.as_slice.ensures ∙ c.in_ok-models.ensures in
    answers _ _ _ _ _ _ c.in_ok-tables.ensures.untouched (λ w told given.
    let there = tables_are w _ _ c.in_ok-tables.tables models (c.in_ok-tables.ensures.ok w told given.0) in
    (serves w (map plain c.args.all.now) c.args.q.now _ c.in_ok-marks.ensures there, there))
