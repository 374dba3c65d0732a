use Rattle.std.proofs.Common.{rules, ◌≡◌, FitsSigned, w64, to_z, of_z}
use Rattle.std.proofs.lemmas.Int.{to_z-of_z}
use Rattle.mesh_cli.proofs.cli.Commanding.{ran_at}
use Rattle.mesh_cli.proofs.cli.command.ran.Goals as goal

pub returns-in-Ok : goal.returns-in-Ok
returns-in-Ok g c =
    let fits : FitsSigned w64 c.in-Ok.t = search rules in
    let same : to_z w64 (of_z w64 c.in-Ok.t) ≡ c.in-Ok.t = simp to_z-of_z in
    λ dir f. ran_at dir _ _ _ f _ _ _ _ c.in-Ok.t _ _ same c.in-Ok.ensures c.run.ensures
