use Rattle.std.proofs.Common.{sym, ap, ◌∙◌}
use Rattle.std.specs.List.{slice_get}
use Rattle.std.specs.Option.{is_some}
use Rattle.mesh_base.specs.declared.queries.Rel.{Rel}
use Rattle.mesh_base.specs.Outputs.{select_columns}
use Rattle.mesh_base.specs.rules.Seen.{rel_columns}
use Rattle.mesh_spec_changes.specs.shown.Shown.{stored_relations}
use Rattle.mesh_layer.proofs.Naming.{cte_there, relation_there}
use Rattle.mesh_layer.proofs.seen.is_there.Goals as goal

pub returns-in-Named : goal.returns-in-Named
returns-in-Named c =
    c.is_known.ensures
    ∙ sym (ap (λ (r : Rel). is_some (rel_columns (stored_relations c.args.own.now c.args.targets.now) c.args.ctes.now r)) c.in-Named.is ∙ relation_there c.args.own.now c.args.targets.now c.in-Named.name)

pub returns-in-Cte : goal.returns-in-Cte
returns-in-Cte c =
    c.has_cte.ensures
    ∙ sym (ap (λ (r : Rel). is_some (rel_columns (stored_relations c.args.own.now c.args.targets.now) c.args.ctes.now r)) c.in-Cte.is ∙ cte_there select_columns (slice_get c.args.ctes.now c.in-Cte.at))
