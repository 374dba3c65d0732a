use Rattle.mesh_cli_look.proofs.asking.Looking.{given_later, given_stops}
use Rattle.mesh_cli_look.proofs.asking.fetched.fetched.Goals as goal

pub returns-in_err-q : goal.returns-in_err-q
returns-in_err-q g c = (c.in_err-q.ensures.0, c.in_err-q.ensures.1, given_stops _ _ _ _ _ c.in_err-q.ensures.2 c.from_residual.ensures.1)

pub returns : goal.returns
returns g c = (c.in_ok-q.ensures.0, c.in_ok-q.ensures.1, given_later _ _ _ _ _ _ c.in_ok-q.ensures.2 c.asked_text.ensures)
