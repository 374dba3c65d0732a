use Rattle.std.proofs.Common.{length, map, ap, sym, ◌∙◌}
use Rattle.std.proofs.lemmas.List.{length-map}
use Rattle.mesh_eval_rows.specs.joins.joined.Joined.{shown}
use Rattle.mesh_eval_expressions.specs.bound.Meaning.{Given, bound_value, row_alone}
use Rattle.mesh_base_values.specs.declared.values.Cell.{Cell}
use Rattle.mesh_eval.proofs.placing.add_values.Goals as goal

pub push-requires : goal.push-requires
push-requires c =
    ap length c.in_ok-values_into.ensures
    ∙ length-map (map bound_value c.args.all.now) (λ (f : Given → Cell). f (row_alone (shown c.args.row.now)))
    ∙ length-map c.args.all.now bound_value ∙ sym c.requires
