use Rattle.std.proofs.Common.{◌≡◌, true, None, List, [], length, sym, ap, ◌∙◌, subst, w64, to_z, of_z}
use Rattle.std.specs.Prelude.{IsSome}
use Rattle.std.specs.List.{AllZip, Contains}
use Rattle.mesh_base.specs.declared.snapshots.Node.{Node}
use Rattle.mesh_base.specs.declared.rules.plans.Plan.{Plan}
use Rattle.mesh_house_book.specs.WellFormed.{snapshot_at}
use Rattle.mesh_spec_model.specs.Closures.{closures}
use Rattle.mesh_spec_model.specs.Horizons.{Clock, Shows}
use Rattle.mesh_spec_changes.specs.listed.Listed.{listed}
use Rattle.mesh_spec_changes.specs.due.Dues.{again, dues}
use Rattle.mesh_spec_changes.specs.due.Plans.{planned}
use Rattle.mesh_spec_changes.specs.due.Versions.{node_ref}
use Rattle.mesh_plan_due.specs.Long.{first_too_long}
use Rattle.mesh_plan.specs.Entries.{IsRecorded}
use Rattle.mesh_plan.specs.Running.{IsRunOf}
use Rattle.mesh_plan.proofs.Beside.{list_fits}
use Rattle.mesh_plan.proofs.Runs.{all_known, whole_run, zipped_long}
use Rattle.mesh_plan.proofs.Whole.{second_whole}
use Rattle.mesh_plan.proofs.running.run_of.Goals as goal

pub project_of-requires-clause-list : goal.project_of-requires-clause-list
project_of-requires-clause-list c = list_fits c.args.b.now c.args.env.now c.args.e.now c.requires.book c.requires.known

pub kept_entries-requires : goal.kept_entries-requires
kept_entries-requires c =
    let b = c.args.b.now in
    let list = c.args.e.now.list in
    let nodes : c.as_slice.result.now ≡ listed b.snapshots list = c.as_slice.ensures.nodes ∙ c.in_ok-project.ensures in
    subst (λ (ns : List Node). (n : Node) → Contains ns n → IsSome (snapshot_at b.snapshots (node_ref n))) (sym nodes)
    (all_known b list c.requires.book (list_fits b c.args.env.now c.args.e.now c.requires.book c.requires.known))

pub compute-requires-clause-entries : goal.compute-requires-clause-entries
compute-requires-clause-entries c =
    let long : length c.in_ok-entries.entries ≡ length c.as_slice.result.now = zipped_long (IsRecorded c.args.b.now) c.as_slice.result.now c.in_ok-entries.entries c.in_ok-entries.ensures in
    ap length c.as_slice-3.ensures ∙ long ∙ ap length (c.as_slice.ensures.nodes ∙ sym c.as_slice-2.ensures.nodes)

pub returns-in_ok-made-in-Ok-clause-ok : goal.returns-in_ok-made-in-Ok-clause-ok
returns-in_ok-made-in-Ok-clause-ok c =
    let b = c.args.b.now in
    let env = c.args.env.now in
    let e = c.args.e.now in
    let t = c.args.t in
    let project = c.in_ok-project.project in
    let xs = c.in_ok-entries.entries in
    let forgets = c.in-Ok.computed.forgets in
    let second : to_z w64 (of_z w64 t) ≡ t = second_whole t c.ranges.t in
    let seen = λ (clock : Clock) (shows : Shows clock t). subst (Shows clock) (sym second) shows in
    let first : c.as_slice.result.now ≡ listed b.snapshots e.list = c.as_slice.ensures.nodes ∙ c.in_ok-project.ensures in
    let nodes : c.as_slice-2.result.now ≡ listed b.snapshots e.list = c.as_slice-2.ensures.nodes ∙ c.in_ok-project.ensures in
    let entries : c.as_slice-3.result.now ≡ xs = c.as_slice-3.ensures in
    let made : c.in_ok-made-in-Ok.made ≡ record { env = env; moment = t; run = true; project = project; entries = xs; removed = []; unsteady = []; dues = c.in-Ok.computed.dues; forgets = forgets } =
    c.in_ok-made-in-Ok.ensures
    ∙ (λ i. record { env = env; moment = second i; run = true; project = project; entries = xs; removed = []; unsteady = []; dues = c.in-Ok.computed.dues; forgets = forgets }) in
    subst (λ (x : Plan). IsRunOf b env e t x) (sym made)
    (whole_run b env e t project xs c.in-Ok.computed.dues forgets c.requires.book c.requires.ahead c.requires.known c.requires.settled
    c.in_ok-project.ensures
    (subst (λ (ns : List Node). AllZip (IsRecorded b) ns xs) first c.in_ok-entries.ensures)
    (λ clock shows. ap (λ (ns : List Node). first_too_long clock (closures ns)) (sym nodes) ∙ c.in-Ok.ensures.short clock (seen clock shows))
    (λ clock shows. c.in-Ok.ensures.forgets clock (seen clock shows) ∙ (λ i. again clock b None (planned (nodes i) (entries i))))
    (λ clock shows. c.in-Ok.ensures.dues clock (seen clock shows) ∙ (λ i. dues clock b forgets (planned (nodes i) (entries i)))))
