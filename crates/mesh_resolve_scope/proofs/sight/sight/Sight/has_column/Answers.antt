use Rattle.std.proofs.Common.{ap, sym, ◌∙◌}
use Rattle.std.specs.Option.{is_some}
use Rattle.mesh_resolve_scope.specs.sight.Sight.{is_column}
use Rattle.mesh_resolve_scope.proofs.sight.Soles.{is_column_where}
use Rattle.mesh_resolve_scope.proofs.sight.sight.Sight.has_column.Goals as goal

pub returns : goal.returns
returns c =
    c.contains_key.ensures ∙ ap is_some (c.self.invariant.by_column c.args.name.now)
    ∙ sym (is_column_where c.args.name.now c.self.inside.from.items) ∙ ap (λ s. is_column c.args.name.now s.from) c.self.view_is
