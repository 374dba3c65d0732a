use Rattle.std.proofs.Common.{ap, sym, ◌∙◌}
use Rattle.std.specs.Option.{is_some}
use Rattle.mesh_resolve_scope.proofs.sight.Soles.{is_there_where}
use Rattle.mesh_resolve_scope.proofs.sight.names.is_there.Goals as goal

pub returns : goal.returns
returns c = c.is_some.ensures ∙ ap is_some c.place.ensures.sole ∙ sym (is_there_where 0 c.args.name.now c.args.sight.now.from)
