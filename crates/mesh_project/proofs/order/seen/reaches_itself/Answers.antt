use Rattle.std.proofs.Common.{◌∙◌, ap, List, ℕ}
use Rattle.mesh_project.specs.order.Seen.{some_lead_to}
use Rattle.mesh_project.proofs.order.Walking.{tells}
use Rattle.mesh_project.proofs.order.seen.reaches_itself.Goals as goal

pub returns : goal.returns
returns c =
    tells c.args.links.now c.args.at c.in_ok-seen.seen.items c.in_ok-seen.ensures _
    (c.some_lead_to.ensures ∙ ap (λ (l : List ℕ). some_lead_to c.args.links.now l c.args.at) c.as_slice.ensures.value)
