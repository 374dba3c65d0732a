use Rattle.std.proofs.Common.{rules, ◌≡◌, FitsSigned, w64, to_z, of_z}
use Rattle.std.proofs.lemmas.Int.{to_z-of_z}
use Rattle.mesh_cli.proofs.cli.Commanding.{applied_at, planned_at}
use Rattle.mesh_cli.proofs.cli.command.applied.Goals as goal

pub returns-in-Ok-clause-apply : goal.returns-in-Ok-clause-apply
returns-in-Ok-clause-apply g c =
    let fits : FitsSigned w64 c.in-Ok.t = search rules in
    let same : to_z w64 (of_z w64 c.in-Ok.t) ≡ c.in-Ok.t = simp to_z-of_z in
    applied_at _ _ _ _ _ _ _ _ _ _ _ c.in-Ok.t _ _ same c.in-Ok.ensures c.apply.ensures.answers c.apply.ensures.folder

pub returns-in-Ok-clause-plan : goal.returns-in-Ok-clause-plan
returns-in-Ok-clause-plan g c =
    let fits : FitsSigned w64 c.in-Ok.t = search rules in
    let same : to_z w64 (of_z w64 c.in-Ok.t) ≡ c.in-Ok.t = simp to_z-of_z in
    planned_at _ _ _ _ _ _ _ _ _ _ _ c.in-Ok.t _ _ same c.in-Ok.ensures c.apply.ensures.answers c.apply.ensures.folder
