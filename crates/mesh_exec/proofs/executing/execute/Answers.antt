use Rattle.std.proofs.Common.{◌≡◌, ℕ, Ok, map, sym, ap, subst, ◌∙◌}
use Rattle.mesh_exec_works.specs.Works.{part_of, parts, parts_from}
use Rattle.mesh_exec.specs.Answers.{Executes}
use Rattle.mesh_exec.proofs.Fitting.{parts_fit}
use Rattle.mesh_exec.proofs.Ranks.{lower_before}
use Rattle.mesh_exec.proofs.Whole.{begins_not, looks_stop, plan_done, plan_stops}
use Rattle.mesh_exec.proofs.executing.execute.Goals as goal

pub returns-in_err-works : goal.returns-in_err-works
returns-in_err-works g c = begins_not c.args.p.now _ c.from_residual.result c.from_residual.ensures.1

pub make_plan-requires-clause-fit : goal.make_plan-requires-clause-fit
make_plan-requires-clause-fit g c κs within = parts_fit c.args.p.now.project.nodes c.args.p.now.entries c.args.p.now.dues c.as_slice-nodes.ensures.proper c.requires.plan.fit

pub returns-in_err-look : goal.returns-in_err-look
returns-in_err-look g c =
    let same : map part_of c.as_slice-3.result.now ≡ parts c.args.p.now =
    ap (map part_of) c.as_slice-3.ensures ∙ c.in_ok-works.ensures ∙ (λ i. parts_from 0 (c.as_slice-nodes.ensures.nodes i) (c.as_slice.ensures i) (c.as_slice-2.ensures i)) in
    looks_stop c.args.p.now _ _ (map part_of c.as_slice-3.result.now) _ c.from_residual-in_err-look.result same c.in_err-look.ensures c.from_residual-in_err-look.ensures.1

pub returns-in_err-changes : goal.returns-in_err-changes
returns-in_err-changes g c =
    let same : map part_of c.as_slice-3.result.now ≡ parts c.args.p.now =
    ap (map part_of) c.as_slice-3.ensures ∙ c.in_ok-works.ensures ∙ (λ i. parts_from 0 (c.as_slice-nodes.ensures.nodes i) (c.as_slice.ensures i) (c.as_slice-2.ensures i)) in
    plan_stops c.args.p.now (lower_before c.args.p.now.project.nodes c.args.p.now.entries c.args.p.now.dues c.as_slice-nodes.ensures.proper) _ _ _ (map part_of c.as_slice-3.result.now) _ _ c.from_residual-in_err-changes.result same c.in_ok-look.ensures c.in_err-changes.ensures c.from_residual-in_err-changes.ensures.1

pub returns : goal.returns
returns g c =
    let same : map part_of c.as_slice-3.result.now ≡ parts c.args.p.now =
    ap (map part_of) c.as_slice-3.ensures ∙ c.in_ok-works.ensures ∙ (λ i. parts_from 0 (c.as_slice-nodes.ensures.nodes i) (c.as_slice.ensures i) (c.as_slice-2.ensures i)) in
    subst (λ (u : ℕ). Executes c.args.p.now (g.W.Warehouse.told c.args.house.now) (g.W.Warehouse.told c.make_plan.new.house) (Ok (record { units = u; changes = c.in_ok-changes.changes }))) (sym c.len.ensures)
    (plan_done c.args.p.now _ _ _ (map part_of c.as_slice-3.result.now) _ c.in_ok-changes.changes same c.in_ok-look.ensures c.in_ok-changes.ensures)
