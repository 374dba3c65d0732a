use Rattle.std.proofs.Common.{rules, w64, ◌≡◌, pos, get_or, ap, sym, ◌∙◌, FitsSigned, ℤ, to_z, of_z, arith}
use Rattle.std.specs.Option.{option_copied}
use Rattle.std.proofs.lemmas.Int.{to_z-of_z}
use Rattle.std.proofs.lemmas.List.{take_all}
use Rattle.mesh_base.specs.declared.plans.Entry.{Entry}
use Rattle.mesh_spec_model.specs.Closures.{closures}
use Rattle.mesh_spec_changes.specs.due.Dues.{again}
use Rattle.mesh_spec_changes.specs.due.Plans.{planned}
use Rattle.mesh_plan_due.proofs.EachModel.{again_more, planned_long}
use Rattle.mesh_plan_due.proofs.Nodes.{closures_long, read_there}
use Rattle.mesh_plan_due.proofs.again.agains.Goals as goal

pub loop-at-preserved : goal.loop-at-preserved
loop-at-preserved c clock all =
    let fits : FitsSigned w64 (get_or c.as_slice-seconds.result.now c.loop-at.at (pos 0)) = search rules in
    let h : ℤ = to_z w64 (of_z w64 (get_or c.as_slice-seconds.result.now c.loop-at.at (pos 0))) in
    let same : to_z w64 (of_z w64 (get_or c.as_slice-seconds.result.now c.loop-at.at (pos 0))) ≡ get_or c.as_slice-seconds.result.now c.loop-at.at (pos 0) = simp to_z-of_z in
    again_more clock c.args.b.now (option_copied c.args.restate) c.args.nodes.now c.as_slice-seconds.result.now (c.as_slice-seconds.ensures.list ∙ all) c.args.entries.now c.loop-at.at c.index-nodes-at.result c.loop-at-test.true c.index-nodes-at.is
    c.index-entries-at.result c.requires.entries c.index-entries-at.is c.in_ok-named.named.items c.in_ok-named.ensures.named c.index.result.now (read_there c.in_ok-named.named.items c.loop-at.at c.index.result.now (omega (arith, c.in_ok-named.ensures.length, c.loop-at-test.true)) c.index.ensures) _ (ap (λ (e : Entry). e.object) (sym c.index-entries-at.is)) _ same _ c.find-version.ensures
    c.loop-at.made c.add_again.new.forgets (c.loop-at.invariant clock all) c.in_ok-add_again.ensures

pub returns : goal.returns
returns c clock all =
    c.loop-at.invariant clock all
    ∙ ap (again clock c.args.b.now (option_copied c.args.restate)) (take_all c.loop-at.at (planned c.args.nodes.now c.args.entries.now)
    (let long = planned_long c.args.nodes.now (closures c.args.nodes.now) c.args.entries.now (closures_long c.args.nodes.now) c.requires.entries in omega (arith, long, c.loop-at-test.false)))
