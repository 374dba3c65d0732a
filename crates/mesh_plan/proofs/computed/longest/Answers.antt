use Rattle.std.proofs.Common.{sym, ◌∙◌}
use Rattle.std.specs.Option.{option_copied}
use Rattle.mesh_plan.proofs.Longest.{longest_is}
use Rattle.mesh_plan.proofs.computed.longest.Goals as goal

pub returns-in-Some : goal.returns-in-Some
returns-in-Some c =
    longest_is c.args.nodes.now c.args.horizons.now c.in-Some.at (option_copied c.node_at.result) (λ clock is. sym c.in-Some.is ∙ c.first_too_long.ensures clock is) c.node_at.ensures
