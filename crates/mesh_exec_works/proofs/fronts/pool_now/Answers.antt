use Rattle.std.proofs.Common.{◌≡◌, Bool, Some, [], cond, map, sym, ap, ◌∙◌}
use Rattle.mesh_layer.proofs.Finding.{answers, passes_on, stays, wants}
use Rattle.mesh_exec_works.specs.Fronts.{parents_now}
use Rattle.mesh_exec_works.specs.Plain.{model_of, parents_at, plain_models, work_model}
use Rattle.mesh_exec_works.specs.Works.{part_of}
use Rattle.mesh_exec_works.proofs.fronts.pool_now.Goals as goal

pub returns-in_err-parents : goal.returns-in_err-parents
returns-in_err-parents g c = wants _ _ _ _ _ c.from_residual.result (stays _) c.from_residual.ensures.1

pub returns-in_ok-parents : goal.returns-in_ok-parents
returns-in_ok-parents g c =
    let k = c.args.work.now in
    let all = plain_models c.args.nodes.now c.args.entries.now in
    let parts = map part_of c.args.works.now in
    let m = model_of k.node.now k.entry.now in
    let ks : map work_model c.as_slice-then-reads.result.now ≡ parents_at all k.node.now.parents = ap (map work_model) c.as_slice-then-reads.ensures ∙ c.in_ok-parents.ensures ∙ ap (parents_at all) c.as_slice.ensures in
    passes_on _ _ _ _ _ _ _ _ _ c.parents_now.result (stays _) c.parents_now.ensures (λ w told plain. (
      plain,
      λ x found. found ∙ ap (parents_now w parts m) ks ∙ sym (ap (λ (b : Bool). cond b (parents_now w parts m (parents_at all k.node.now.parents)) (Some [])) (sym c.reads.ensures ∙ c.if-reads.true)),
      λ o is. is,
    ))

pub returns-else-reads : goal.returns-else-reads
returns-else-reads g c =
    let k = c.args.work.now in
    let all = plain_models c.args.nodes.now c.args.entries.now in
    answers _ _ _ _ _ _ (stays _) (λ w told plain.
    ap Some c.new.ensures
    ∙ sym (ap (λ (b : Bool). cond b (parents_now w (map part_of c.args.works.now) (model_of k.node.now k.entry.now) (parents_at all k.node.now.parents)) (Some [])) (sym c.reads.ensures ∙ c.if-reads.false)))
