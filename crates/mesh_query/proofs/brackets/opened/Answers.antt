use Rattle.mesh_query.proofs.Descent.{told}
use Rattle.mesh_query.proofs.Made.{not_there, too_many_open}
use Rattle.mesh_query.proofs.brackets.opened.Goals as goal

pub returns-in_err-next : goal.returns-in_err-next
returns-in_err-next c = told _ _ c.from_residual.result c.from_residual.ensures (not_there c.args.depth c.args.tokens.now c.args.from _ c.in_err-next.ensures)

pub returns-in_err-deeper : goal.returns-in_err-deeper
returns-in_err-deeper c = told _ _ c.from_residual-in_err-deeper.result c.from_residual-in_err-deeper.ensures (too_many_open c.args.depth c.args.tokens.now c.args.from c.in_ok-next.ensures.2 c.in_err-deeper.ensures)

pub returns : goal.returns
returns c = (c.in_ok-next.ensures, c.in_ok-deeper.ensures)
