use Rattle.std.proofs.Common.{◌≡◌, true, false, refl, subst, List, ℕ, length}
use Rattle.mesh_project.specs.order.Seen.{AreNamed}
use Rattle.mesh_project.proofs.order.Answering.{done_in_cycle, done_in_order, rest_inside}
use Rattle.mesh_project.proofs.order.order.answered.Goals as goal

pub returns-then-is_empty : goal.returns-then-is_empty
returns-then-is_empty c = done_in_order c.args.models.now c.args.links.now c.requires.links c.args.peeled c.requires.done (c.if-is_empty.ensures.0 refl)

pub cyclic-requires-clause-rest : goal.cyclic-requires-clause-rest
cyclic-requires-clause-rest c =
    rw (c.as_slice.ensures) (rest_inside c.args.models.now c.args.links.now c.requires.links c.args.peeled c.requires.done)

pub returns : goal.returns
returns c =
    let models = c.args.models.now in
    let links = c.args.links.now in
    done_in_cycle models links c.requires.links c.args.peeled c.requires.done
    (λ e. absurd (let no : false ≡ true = c.if-is_empty.ensures.1 e in cc)) c.in_ok-names.names
    (subst (λ (r : List ℕ). AreNamed models links r (length r) c.in_ok-names.names) c.as_slice.ensures c.in_ok-names.ensures)
