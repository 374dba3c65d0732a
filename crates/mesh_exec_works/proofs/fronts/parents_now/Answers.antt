use Rattle.std.proofs.Common.{Bool, None, cond, map, sym, ap, ◌∙◌}
use Rattle.mesh_layer.proofs.Finding.{answers, passes_on, stays}
use Rattle.mesh_exec_works.specs.Fronts.{tables_now}
use Rattle.mesh_exec_works.specs.Plain.{model_of, work_model}
use Rattle.mesh_exec_works.proofs.fronts.parents_now.Goals as goal

pub returns-then-are_read_later : goal.returns-then-are_read_later
returns-then-are_read_later g c =
    let k = c.args.work.now in
    answers _ _ _ _ _ _ (stays _) (λ w told plain.
    sym (ap (λ (b : Bool). cond b None (tables_now w (model_of k.node.now k.entry.now) (map work_model c.args.parents.now))) (sym c.are_read_later.ensures ∙ c.if-are_read_later.true)))

pub returns-else-are_read_later : goal.returns-else-are_read_later
returns-else-are_read_later g c =
    let k = c.args.work.now in
    passes_on _ _ _ _ _ _ _ _ _ c.tables_now.result (stays _) c.tables_now.ensures (λ w told plain. (
      plain,
      λ x found. found ∙ sym (ap (λ (b : Bool). cond b None (tables_now w (model_of k.node.now k.entry.now) (map work_model c.args.parents.now))) (sym c.are_read_later.ensures ∙ c.if-are_read_later.false)),
      λ o is. is,
    ))
