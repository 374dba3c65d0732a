use Rattle.std.proofs.Common.{◌≡◌, refl}
use Rattle.mesh_exec_works.specs.Plain.{models, plain_models}
use Rattle.mesh_exec_works.specs.Works.{parts}
use Rattle.mesh_exec.proofs.Whole.{at_plan, count_stops, open_stops, parts_stop, plan_made}
use Rattle.mesh_exec.proofs.executing.make_plan.Goals as goal

pub returns-in_err-opened : goal.returns-in_err-opened
returns-in_err-opened g c = open_stops c.args.p.now _ _ _ c.from_residual.result c.in_err-opened.ensures.makes c.from_residual.ensures.1

pub returns-in_err-made : goal.returns-in_err-made
returns-in_err-made g c =
    let all : plain_models c.as_slice-nodes.result.now c.as_slice-entries.result.now ≡ models c.args.p.now = λ i. plain_models (c.as_slice-nodes.ensures.nodes i) (c.as_slice-entries.ensures i) in
    parts_stop c.args.p.now _ _ _ c.in_ok-opened.opened (parts c.args.p.now) _ c.from_residual-in_err-made.result refl c.in_ok-opened.ensures.makes
    (at_plan c.args.p.now _ _ _ _ _ all c.requires.parts c.in_err-made.ensures) c.from_residual-in_err-made.ensures.1

pub returns-in_err-sum : goal.returns-in_err-sum
returns-in_err-sum g c =
    let all : plain_models c.as_slice-nodes.result.now c.as_slice-entries.result.now ≡ models c.args.p.now = λ i. plain_models (c.as_slice-nodes.ensures.nodes i) (c.as_slice-entries.ensures i) in
    count_stops c.args.p.now _ _ _ c.in_ok-opened.opened c.in_ok-made.made (parts c.args.p.now) c.from_residual-in_err-sum.result refl c.in_ok-opened.ensures.makes
    (at_plan c.args.p.now _ _ _ _ _ all c.requires.parts c.in_ok-made.ensures) c.from_residual-in_err-sum.ensures.1

pub returns : goal.returns
returns g c =
    let all : plain_models c.as_slice-nodes.result.now c.as_slice-entries.result.now ≡ models c.args.p.now = λ i. plain_models (c.as_slice-nodes.ensures.nodes i) (c.as_slice-entries.ensures i) in
    plan_made c.args.p.now _ _ _ c.in_ok-opened.opened c.in_ok-made.made c.in_ok-sum.sum (parts c.args.p.now) refl c.in_ok-opened.ensures.makes c.in_ok-opened.ensures.number c.in_ok-opened.ensures.calls
    (at_plan c.args.p.now _ _ _ _ _ all c.requires.parts c.in_ok-made.ensures) c.in_ok-sum.ensures
