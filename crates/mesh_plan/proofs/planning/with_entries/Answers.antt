use Rattle.std.proofs.Common.{◌≡◌, true, false, List, length, sym, ap, ◌∙◌, subst, w64, to_z, of_z}
use Rattle.std.specs.Option.{option_copied}
use Rattle.mesh_base.specs.declared.snapshots.Node.{Node}
use Rattle.mesh_base.specs.declared.snapshots.Ref.{Ref}
use Rattle.mesh_base.specs.declared.rules.plans.Plan.{Plan}
use Rattle.mesh_spec_model.specs.Closures.{closures}
use Rattle.mesh_spec_model.specs.Horizons.{Clock, Shows}
use Rattle.mesh_spec_changes.specs.listed.Listed.{is_list_fit}
use Rattle.mesh_spec_changes.specs.due.Dues.{again, dues}
use Rattle.mesh_spec_changes.specs.due.Plans.{planned}
use Rattle.mesh_plan_due.specs.Long.{first_too_long}
use Rattle.mesh_plan.specs.Plans.{IsPlanOf, Unclashed, removed}
use Rattle.mesh_plan.proofs.Models.{as_many}
use Rattle.mesh_plan.proofs.Whole.{second_whole, whole}
use Rattle.mesh_plan.proofs.planning.with_entries.Goals as goal

pub compute-requires-clause-entries : goal.compute-requires-clause-entries
compute-requires-clause-entries c =
    ap length c.as_slice-2.ensures ∙ as_many c.args.b.now c.args.base.now c.args.p.now.nodes c.args.entries c.requires.entries.are ∙ sym (ap length c.as_slice.ensures.nodes)

pub returns-in_ok-made-in-Ok-clause-ok : goal.returns-in_ok-made-in-Ok-clause-ok
returns-in_ok-made-in-Ok-clause-ok c =
    let b = c.args.b.now in
    let env = c.args.env.now in
    let t = c.args.t in
    let p = c.args.p.now in
    let restate = option_copied c.args.again in
    let nodes : c.as_slice.result.now ≡ p.nodes = c.as_slice.ensures.nodes in
    let entries : c.as_slice-2.result.now ≡ c.args.entries = c.as_slice-2.ensures in
    let forgets = c.in-Ok.computed.forgets in
    let second : to_z w64 (of_z w64 t) ≡ t = second_whole t c.ranges.t in
    let seen = λ (clock : Clock) (shows : Shows clock t). subst (Shows clock) (sym second) shows in
    let noted = c.in_ok-noted-in-Ok.noted in
    let made : c.in_ok-made-in-Ok.made ≡ record { env = env; moment = t; run = false; project = p; entries = c.args.entries; removed = noted.0; unsteady = noted.1; dues = c.in-Ok.computed.dues; forgets = forgets } =
    c.in_ok-made-in-Ok.ensures
    ∙ (λ i. record { env = env; moment = second i; run = false; project = p; entries = c.args.entries; removed = noted.0; unsteady = noted.1; dues = c.in-Ok.computed.dues; forgets = forgets }) in
    subst (λ (x : Plan). IsPlanOf b p.nodes env t restate x) (sym made)
    (whole b env t p restate c.args.entries noted.0 noted.1 c.in-Ok.computed.dues forgets c.requires.book c.requires.ahead
    (subst (λ (l : List Ref). is_list_fit b.snapshots l ≡ true) c.requires.list c.requires.fit)
    (subst (λ (l : List Ref). Unclashed b l p.nodes c.args.entries) c.requires.list c.requires.entries)
    (c.in_ok-noted-in-Ok.ensures.gone ∙ ap (λ (l : List Ref). removed b l p.nodes) c.requires.list)
    c.in_ok-noted-in-Ok.ensures.unsteady
    (λ clock shows. ap (λ (ns : List Node). first_too_long clock (closures ns)) (sym nodes) ∙ c.in-Ok.ensures.short clock (seen clock shows))
    (λ clock shows. c.in-Ok.ensures.forgets clock (seen clock shows) ∙ (λ i. again clock b restate (planned (nodes i) (entries i))))
    (λ clock shows. c.in-Ok.ensures.dues clock (seen clock shows) ∙ (λ i. dues clock b forgets (planned (nodes i) (entries i)))))
