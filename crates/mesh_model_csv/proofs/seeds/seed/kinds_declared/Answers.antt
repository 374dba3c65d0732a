use Rattle.std.proofs.Common.{◌∙◌, ap}
use Rattle.std.specs.Option.{unwrap_or}
use Rattle.mesh_base_values.specs.declared.values.ColType.TheVariants as type
use Rattle.mesh_model_csv.specs.seeds.Seeds.{declared_kind}
use Rattle.mesh_model_csv.proofs.seeds.OneMore.{put_more}
use Rattle.mesh_model_csv.proofs.seeds.seed.kinds_declared.Goals as goal

pub loop-name-preserved : goal.loop-name-preserved
loop-name-preserved c =
    put_more (λ n. unwrap_or (declared_kind c.args.columns.now n) type.Text) c.args.names.now c.loop-name.name-index c.name-item.result _ _ c.unwrap_or.result c.loop-name-test.true c.loop-name.invariant
    (c.unwrap_or.ensures ∙ ap (λ k. unwrap_or k type.Text) c.declared_kind.ensures ∙ ap (λ n. unwrap_or (declared_kind c.args.columns.now n) type.Text) c.name-item.is) c.in_ok-push.ensures.ok
