use Rattle.std.proofs.Common.{◌≡◌, ◌<◌, [], subst}
use Rattle.std.specs.Prelude.{IfOk}
use Rattle.mesh_model_csv.specs.seeds.Headers.{lowered}
use Rattle.mesh_model_csv.proofs.seeds.OneMore.{made_more}
use Rattle.mesh_model_csv.proofs.seeds.header.header_names.Goals as goal

pub loop-i-preserved : goal.loop-i-preserved
loop-i-preserved c =
    made_more lowered c.args.header.now c.loop-i.i [] _ _ c.lower_case.result (subst (λ n. c.loop-i.i < n) c.len-i-end.ensures c.loop-i-test.true) c.loop-i.invariant
    (subst (λ t. IfOk c.lower_case.result (λ name. name ≡ lowered t)) c.field.ensures c.lower_case.ensures) c.in_ok-push_made.ensures
