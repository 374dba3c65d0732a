use Rattle.std.proofs.lemmas.Result.{IfOk-weaker}
use Rattle.mesh_canon.proofs.canon.Either.{either_found, either_only}
use Rattle.mesh_canon.proofs.canon.either_form.read_definition.Goals as goal

pub returns-clause-found : goal.returns-clause-found
returns-clause-found c =
    IfOk-weaker c.chosen.result _ _ (λ m e. either_found c.args.text.now c.read_own-now.result c.read_own_old-former.result m c.read_own-now.ensures.found c.read_own_old-former.ensures.found c.read_own_old-former.ensures.none e) c.chosen.ensures.from

pub returns-clause-only : goal.returns-clause-only
returns-clause-only c = λ m fit is.
    either_only c.args.text.now m _ _ _ (λ e. c.read_own-now.ensures.only m fit e) (λ n e. c.read_own_old-former.ensures.only m fit n e) (c.chosen.ensures.now m) (c.chosen.ensures.former m) is
