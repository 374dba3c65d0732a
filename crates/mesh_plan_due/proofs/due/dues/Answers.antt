use Rattle.std.proofs.Common.{rules, w64, ◌≡◌, pos, get_or, ap, sym, ◌∙◌, FitsSigned, to_z, of_z, arith}
use Rattle.std.proofs.lemmas.Int.{to_z-of_z}
use Rattle.std.proofs.lemmas.List.{take_all}
use Rattle.mesh_base.specs.declared.plans.Entry.{Entry}
use Rattle.mesh_spec_model.specs.Closures.{closures}
use Rattle.mesh_spec_changes.specs.due.Dues.{dues}
use Rattle.mesh_spec_changes.specs.due.Plans.{planned}
use Rattle.mesh_plan_due.proofs.EachModel.{planned_long}
use Rattle.mesh_plan_due.proofs.EachDue.{dues_more}
use Rattle.mesh_plan_due.proofs.Nodes.{closures_long}
use Rattle.mesh_plan_due.proofs.due.dues.Goals as goal

pub loop-at-preserved : goal.loop-at-preserved
loop-at-preserved c clock all =
    let fits : FitsSigned w64 (get_or c.as_slice-seconds.result.now c.loop-at.at (pos 0)) = search rules in
    let same : to_z w64 (of_z w64 (get_or c.as_slice-seconds.result.now c.loop-at.at (pos 0))) ≡ get_or c.as_slice-seconds.result.now c.loop-at.at (pos 0) = simp to_z-of_z in
    dues_more clock c.args.b.now c.args.forgets.now c.args.nodes.now c.requires.proper c.as_slice-seconds.result.now (c.as_slice-seconds.ensures.list ∙ all) c.args.entries.now c.loop-at.at c.index-nodes-at.result c.loop-at-test.true c.index-nodes-at.is
    c.index-entries-at.result c.requires.entries c.index-entries-at.is c.in_ok-sight.sight c.in_ok-sight.ensures _ (ap (λ (e : Entry). e.object) (sym c.index-entries-at.is)) _ same _ c.find-version.ensures
    c.loop-at.made c.add_dues.new.dues (c.loop-at.invariant clock all) c.in_ok-add_dues.ensures

pub returns : goal.returns
returns c clock all =
    c.loop-at.invariant clock all
    ∙ ap (dues clock c.args.b.now c.args.forgets.now) (take_all c.loop-at.at (planned c.args.nodes.now c.args.entries.now)
    (let long = planned_long c.args.nodes.now (closures c.args.nodes.now) c.args.entries.now (closures_long c.args.nodes.now) c.requires.entries in omega (arith, long, c.loop-at-test.false)))
