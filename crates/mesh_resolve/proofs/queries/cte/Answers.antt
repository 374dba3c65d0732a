use Rattle.std.proofs.Common.{sym, ◌∙◌}
use Rattle.mesh_resolve_selects.proofs.outputs.Places.{no_place}
use Rattle.mesh_resolve.proofs.queries.cte.Goals as goal

pub push-requires : goal.push-requires
push-requires c = record { new = no_place c.in_ok-name.name c.args.done.now (sym c.has.ensures ∙ c.if-has.false) }
