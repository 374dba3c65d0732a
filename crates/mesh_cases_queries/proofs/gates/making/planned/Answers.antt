use Rattle.std.proofs.Common.{rules, ◌≡◌, FitsSigned, w64, to_z, of_z, ℤ, subst, None}
use Rattle.std.proofs.lemmas.Int.{to_z-of_z}
use Rattle.mesh_plan.specs.Plans.{IsPlanOf}
use Rattle.mesh_exec.proofs.plans.Executable.{plan_executable}
use Rattle.mesh_cases_queries.proofs.gates.making.planned.Goals as goal

pub returns-in-Ok : goal.returns-in-Ok
returns-in-Ok c =
    let fits : FitsSigned w64 c.args.t = search rules in
    let same : to_z w64 (of_z w64 c.args.t) ≡ c.args.t = simp to_z-of_z in
    plan_executable c.args.b.now c.args.p.now.nodes c.in_ok-env.env c.args.t None c.in-Ok.made c.requires.moment c.as_slice.ensures.proper
    (subst (λ (t : ℤ). IsPlanOf c.args.b.now c.args.p.now.nodes c.in_ok-env.env t None c.in-Ok.made) same c.in-Ok.ensures.ok)
