use Rattle.std.proofs.Common.{subst, sym, List, ℕ}
use Rattle.mesh_project.specs.order.Links.{AreByName}
use Rattle.mesh_project.proofs.order.Places.{are_by_name}
use Rattle.mesh_project.proofs.order.links.by_name.Goals as goal

pub returns : goal.returns
returns c =
    subst (λ (m : List ℕ). AreByName c.args.models.now m) (sym c.in_ok-made.ensures.value) (are_by_name c.args.models.now c.requires.apart c.args.places.now c.requires.places c.values_of.ensures.ordered)
