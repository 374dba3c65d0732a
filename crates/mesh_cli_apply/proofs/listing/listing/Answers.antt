use Rattle.std.proofs.Common.{◌≡◌, ap, ◌∙◌}
use Rattle.mesh_janitor.specs.promote.Promotion.{paired}
use Rattle.mesh_cli_apply.specs.declared.listing.Lists.{Lists}
use Rattle.mesh_cli_apply.specs.Listing.{targets}
use Rattle.mesh_cli_apply.proofs.Listed.{lists_objects, lists_refs}
use Rattle.mesh_cli_apply.proofs.listing.listing.Goals as goal

pub returns-clause-list : goal.returns-clause-list
returns-clause-list c =
    let are : c.as_slice-3.result.now ≡ targets c.args.p.now.project.nodes c.args.p.now.entries =
    c.as_slice-3.ensures ∙ c.in_ok-targets.ensures ∙ (λ i. targets (c.as_slice.ensures.nodes i) (c.as_slice-2.ensures i)) in
    ap (λ (l : Lists). l.list) c.in_ok-made.ensures ∙ lists_refs c.args.p.now c.as_slice-3.result.now are

pub returns-clause-objects : goal.returns-clause-objects
returns-clause-objects c =
    let are : c.as_slice-3.result.now ≡ targets c.args.p.now.project.nodes c.args.p.now.entries =
    c.as_slice-3.ensures ∙ c.in_ok-targets.ensures ∙ (λ i. targets (c.as_slice.ensures.nodes i) (c.as_slice-2.ensures i)) in
    ap (λ (l : Lists). paired l.list l.objects) c.in_ok-made.ensures ∙ lists_objects c.args.p.now c.as_slice-3.result.now are
