use Rattle.std.proofs.Common.{sym, subst}
use Rattle.mesh_layer.specs.Read.{IsFound}
use Rattle.mesh_layer.proofs.known.known_at.Goals as goal

pub returns-in_ok-copy-in-Some-clause-found : goal.returns-in_ok-copy-in-Some-clause-found
returns-in_ok-copy-in-Some-clause-found c = λ w are.
    subst (IsFound w c.args.name.now) (sym c.in_ok-copy-in-Some.ensures) (are c.args.name.now c.in-Some.entry.now (sym c.in-Some.ensures))
