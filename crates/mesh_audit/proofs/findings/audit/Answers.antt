use Rattle.std.proofs.Common.{◌≡◌, List, Some, map, ap, subst, ◌∙◌}
use Rattle.mesh_layer.specs.Lost.{first_of}
use Rattle.mesh_audit.specs.declared.audits.Audit.{Audit}
use Rattle.mesh_audit.specs.Audited.{Placed, lost_by, placed}
use Rattle.mesh_audit.specs.Pools.{plain}
use Rattle.mesh_layer.proofs.Asking.{shows}
use Rattle.mesh_layer.proofs.Finding.{part_fails, stays, wants}
use Rattle.mesh_audit.proofs.Gathering.{findings_lost}
use Rattle.mesh_audit.proofs.findings.audit.Goals as goal

pub returns-in_err-all : goal.returns-in_err-all
returns-in_err-all g c = shows _ _ _ _ _ (findings_lost c.args.p.now c.args.a.now) (wants _ _ _ _ _ c.from_residual.result (stays _) c.from_residual.ensures.1)

pub returns-in_err-found : goal.returns-in_err-found
returns-in_err-found g c =
    let p = c.args.p.now in
    let nodes : placed c.as_slice.result.now c.as_slice-2.result.now ≡ placed p.project.nodes p.entries = λ i. placed (c.as_slice.ensures.nodes i) (c.as_slice-2.ensures i) in
    let all : map plain c.as_slice-3.result.now ≡ placed p.project.nodes p.entries = ap (map plain) c.as_slice-3.ensures ∙ c.in_ok-all.ensures ∙ nodes in
    shows _ _ _ _ _ (findings_lost p c.args.a.now)
    (part_fails _ _ _ _ _ _ _ _ _ c.in_err-found.field-0.0 c.from_residual-in_err-found.result (stays _) c.in_err-found.ensures c.from_residual-in_err-found.ensures.1
    (λ w told plainly. (
      plainly,
      λ o is.
          subst (λ (l : List Audit). first_of (map (lost_by w (placed p.project.nodes p.entries)) l) ≡ Some o) c.as_slice-4.ensures
          (subst (λ (l : List Placed). first_of (map (lost_by w l) c.as_slice-4.result.now) ≡ Some o) all is),
    )))
