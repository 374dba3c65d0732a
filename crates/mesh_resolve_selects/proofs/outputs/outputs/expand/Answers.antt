use Rattle.std.proofs.Common.{[], ◌++◌, Bool, List, map, sym, ap, ◌∙◌, if◌then◌else◌}
use Rattle.std.proofs.lemmas.List.{append-nil, take_all}
use Rattle.mesh_resolve_selects.specs.declared.outputs.outputs.Output.{Output}
use Rattle.mesh_resolve_selects.specs.outputs.Outputs.{all_of_one, expanded, starred}
use Rattle.mesh_resolve_selects.proofs.outputs.Loops.{some_made}
use Rattle.mesh_resolve_selects.proofs.outputs.outputs.expand.Goals.{then-answers_to+in_ok-add_columns, else-answers_to}
use Rattle.mesh_resolve_selects.proofs.outputs.outputs.expand.Goals as goal

pub loop-d-preserved : goal.loop-d-preserved
loop-d-preserved c =
    let d = c.d-item.result in
    let own : List Output = map (starred c.args.at d) d.columns in
    elim c.if-answers_to.branch [
      | then-answers_to+in_ok-add_columns w ↦
          some_made (all_of_one c.args.at c.args.item.now) c.args.done.now c.loop-d.done c.if-answers_to.done c.args.from.now c.loop-d.d-index d c.loop-d-test.true c.d-item.is c.loop-d.invariant
          (w.done-is ∙ w.in_ok-add_columns.ensures ∙ ap (λ (b : Bool). c.loop-d.done ++ (if b then own else [])) (sym (sym c.answers_to.ensures ∙ w.if-answers_to.true)))
      | else-answers_to w ↦
          some_made (all_of_one c.args.at c.args.item.now) c.args.done.now c.loop-d.done c.if-answers_to.done c.args.from.now c.loop-d.d-index d c.loop-d-test.true c.d-item.is c.loop-d.invariant
          (w.done-is ∙ sym (append-nil c.loop-d.done) ∙ ap (λ (b : Bool). c.loop-d.done ++ (if b then own else [])) (sym (sym c.answers_to.ensures ∙ w.if-answers_to.false)))
    ]

pub loop-d-init : goal.loop-d-init
loop-d-init c = sym (append-nil c.args.done.now)

pub returns : goal.returns
returns c =
    c.loop-d.invariant ∙ ap (λ l. c.args.done.now ++ expanded c.args.at c.args.item.now l) (take_all c.loop-d.d-index c.args.from.now c.loop-d-test.false)
