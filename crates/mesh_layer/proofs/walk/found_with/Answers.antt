use Rattle.std.proofs.Common.{sym}
use Rattle.mesh_layer.specs.Read.{IsFound}
use Rattle.mesh_layer.proofs.Finding.{answers, by_read, house_fails, read_is, stays, wants}
use Rattle.mesh_layer.proofs.walk.found_with.Goals as goal

pub returns-clause-finds : goal.returns-clause-finds
returns-clause-finds g c =
    let read = c.in_ok-columns.ensures in
    answers _ _ _ _ _ _ (by_read _ _ _ _ read) (λ w told given.
    let columns = read_is _ _ _ _ read w told in
    let is : IsFound w c.args.name.now (record { height = c.args.height; columns = c.in_ok-columns.columns; rows = c.args.rows }) = record { rows = given.1; columns = sym columns } in
    (c.in_ok-keep.ensures w given.0 is, is))

pub returns-in_err-columns-clause-finds : goal.returns-in_err-columns-clause-finds
returns-in_err-columns-clause-finds g c = house_fails _ _ _ _ _ _ _ c.in_err-columns.field-0.0 c.from_residual.result (stays _) c.in_err-columns.ensures c.from_residual.ensures.1

pub returns-in_err-keep-clause-finds : goal.returns-in_err-keep-clause-finds
returns-in_err-keep-clause-finds g c = wants _ _ _ _ _ c.from_residual-in_err-keep.result (by_read _ _ _ _ c.in_ok-columns.ensures) c.from_residual-in_err-keep.ensures.1
