use Rattle.std.proofs.Common.{arith}
use Rattle.mesh_query.proofs.Steps.{started, has_read, is_done}
use Rattle.mesh_query.proofs.Descent.{told, fails_in}
use Rattle.mesh_query.proofs.queries.selected.Goals as goal

pub returns-in_err-items : goal.returns-in_err-items
returns-in_err-items c = told _ _ c.from_residual.result c.from_residual.ensures (fails_in _ c.args.tokens.now _ started c.in_err-items.ensures)

pub returns-in-Err : goal.returns-in-Err
returns-in-Err c =
    let items = c.in_ok-items.ensures in
    rw c.given_up.ensures (fails_in _ c.args.tokens.now _ (has_read c.in_ok-items.items started items.1) c.in-Err.ensures)

pub returns-in-Err-filter : goal.returns-in-Err-filter
returns-in-Err-filter c =
    let items = c.in_ok-items.ensures in
    let from_ = c.in-Ok.ensures in
    rw c.given_up-in-Err-filter.ensures (fails_in _ c.args.tokens.now _ (has_read c.in-Ok.found.0 (has_read c.in_ok-items.items started items.1) from_.1) c.in-Err-filter.ensures)

pub returns-in-Err-keys : goal.returns-in-Err-keys
returns-in-Err-keys c =
    let items = c.in_ok-items.ensures in
    let from_ = c.in-Ok.ensures in
    let filter = c.in-Ok-filter.ensures in
    rw c.given_up-in-Err-keys.ensures (fails_in _ c.args.tokens.now _ (has_read c.in-Ok-filter.found.0 (has_read c.in-Ok.found.0 (has_read c.in_ok-items.items started items.1) from_.1) filter.1) c.in-Err-keys.ensures)

pub returns-in-Err-having : goal.returns-in-Err-having
returns-in-Err-having c =
    let items = c.in_ok-items.ensures in
    let from_ = c.in-Ok.ensures in
    let filter = c.in-Ok-filter.ensures in
    let keys = c.in-Ok-keys.ensures in
    rw c.given_up-in-Err-having.ensures (fails_in _ c.args.tokens.now _ (has_read c.in-Ok-keys.found.0 (has_read c.in-Ok-filter.found.0 (has_read c.in-Ok.found.0 (has_read c.in_ok-items.items started items.1) from_.1) filter.1) keys.1) c.in-Err-having.ensures)

pub returns : goal.returns
returns c =
    let items = c.in_ok-items.ensures in
    let from_ = c.in-Ok.ensures in
    let filter = c.in-Ok-filter.ensures in
    let keys = c.in-Ok-keys.ensures in
    let having = c.in-Ok-having.ensures in
    (omega (arith, items.0, from_.0, filter.0, keys.0, having.0), is_done (has_read c.in-Ok-having.found.0 (has_read c.in-Ok-keys.found.0 (has_read c.in-Ok-filter.found.0 (has_read c.in-Ok.found.0 (has_read c.in_ok-items.items started items.1) from_.1) filter.1) keys.1) having.1))
