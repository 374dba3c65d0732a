use Rattle.std.proofs.Common.{ap, ◌∙◌}
use Rattle.mesh_layer.proofs.Finding.{answers, part_fails, stays}
use Rattle.mesh_exec.specs.Sources.{breach_by}
use Rattle.mesh_exec.proofs.sources.breach_of.Goals as goal

pub returns-in_err-columns : goal.returns-in_err-columns
returns-in_err-columns g c =
    part_fails _ _ _ _ _ _ _ _ _ c.in_err-columns.field-0.0 c.from_residual.result (stays _) c.in_err-columns.ensures c.from_residual.ensures.1
    (λ w told plain. (plain, λ o is. is))

pub returns : goal.returns
returns g c =
    answers _ _ _ _ _ _ c.in_ok-columns.ensures.untouched (λ w told plain. c.in_ok-found.ensures ∙ ap (breach_by c.args.decl.now) (c.in_ok-columns.ensures.ok w told plain))
