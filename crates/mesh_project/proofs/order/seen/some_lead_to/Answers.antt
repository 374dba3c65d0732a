use Rattle.std.proofs.Common.{◌||◌, sym, ap, ◌∙◌}
use Rattle.std.specs.Prelude.{slice_index}
use Rattle.std.specs.List.{list_any}
use Rattle.std.proofs.lemmas.List.{take_all}
use Rattle.std.proofs.lemmas.List.Folds.{list_any_at, list_any_more}
use Rattle.mesh_project.specs.order.Links.{leads}
use Rattle.mesh_project.proofs.order.seen.some_lead_to.Goals as goal

pub returns-then-leads_to : goal.returns-then-leads_to
returns-then-leads_to c =
    sym (list_any_at (λ s. leads c.args.links.now s c.args.to) c.args.seen.now c.loop-from.from-index 0 c.loop-from-test.true (sym c.leads_to.ensures ∙ c.if-leads_to.true))

pub loop-from-preserved : goal.loop-from-preserved
loop-from-preserved c =
    list_any_more (λ s. leads c.args.links.now s c.args.to) c.args.seen.now c.loop-from.from-index 0 c.loop-from-test.true
    ∙ ap (λ b. b || leads c.args.links.now (slice_index c.args.seen.now c.loop-from.from-index) c.args.to) c.loop-from.invariant
    ∙ sym c.leads_to.ensures ∙ c.if-leads_to.false

pub returns : goal.returns
returns c = sym (ap (list_any (λ s. leads c.args.links.now s c.args.to)) (sym (take_all c.loop-from.from-index c.args.seen.now c.loop-from-test.false)) ∙ c.loop-from.invariant)
