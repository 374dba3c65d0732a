use Rattle.std.proofs.Common.{FitsSigned, w64, rules}
use Rattle.std.proofs.lemmas.Int.{to_z-of_z}
use Rattle.mesh_cli_print.proofs.plans.Written.{written}
use Rattle.mesh_cli_print.proofs.plans.moments.moment_written.Goals as goal

pub returns : goal.returns
returns c =
    let fits : FitsSigned w64 c.args.t = search rules in
    written c.args.t c.moment_text.result c.requires (rw (← to_z-of_z w64 c.args.t fits) c.moment_text.ensures)
