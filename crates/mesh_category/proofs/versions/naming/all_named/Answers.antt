use Rattle.std.proofs.Common.{◌≡◌, ◌+◌, Some, take, length, refl, sym, ◌∙◌, arith}
use Rattle.std.specs.List.{slice_get}
use Rattle.std.proofs.lemmas.List.{take_all}
use Rattle.std.proofs.lemmas.List.Elements.{All-same}
use Rattle.std.proofs.lemmas.Option.{slice_get_read}
use Rattle.mesh_base.specs.declared.snapshots.Node.{Node}
use Rattle.mesh_category.specs.versions.Clashes.{IsAlone, versions}
use Rattle.mesh_category.proofs.versions.Steps.{first_clash, one_more_alone, one_more_object, versions_long}
use Rattle.mesh_category.proofs.versions.naming.all_named.Goals as goal

pub returns-in-Err-clause-refused : goal.returns-in-Err-clause-refused
returns-in-Err-clause-refused c =
    let nodes = c.args.nodes.now in
    let n : Node = c.index-nodes-at.result in
    let is : slice_get nodes c.loop-at.at ≡ Some n = slice_get_read nodes (length nodes) c.loop-at.at n refl c.loop-at-test.true c.index-nodes-at.is in
    first_clash c.args.b.now.snapshots c.args.base.now nodes c.args.categories.now c.loop-at.at n c.category_at-category.result is c.category_at-category.ensures
    c.loop-at.made c.loop-at.invariant.objects c.loop-at.invariant.alone c.in-Err.fault c.in-Err.ensures.refused

pub loop-at-preserved : goal.loop-at-preserved
loop-at-preserved c =
    let nodes = c.args.nodes.now in
    let n : Node = c.index-nodes-at.result in
    let is : slice_get nodes c.loop-at.at ≡ Some n = slice_get_read nodes (length nodes) c.loop-at.at n refl c.loop-at-test.true c.index-nodes-at.is in
    record {
      objects =
          one_more_object c.args.b.now.snapshots c.args.base.now nodes c.args.categories.now c.loop-at.at n c.category_at-category.result is c.category_at-category.ensures
          c.loop-at.made c.push.new.self c.in-Ok.name (c.loop-at.at + 1) (omega arith) c.loop-at.invariant.objects c.in_ok-push-in-Ok.ensures.ok c.in-Ok.ensures.object;
      alone =
          one_more_alone c.args.b.now.snapshots c.args.base.now nodes c.args.categories.now c.loop-at.at n c.category_at-category.result is c.category_at-category.ensures
          (c.loop-at.at + 1) (omega arith) c.loop-at.invariant.alone c.in-Ok.ensures.alone;
    }

pub returns-clause-objects : goal.returns-clause-objects
returns-clause-objects c =
    let list = versions c.args.b.now.snapshots c.args.base.now c.args.nodes.now c.args.categories.now in
    let long : length list ≡ length c.args.nodes.now = versions_long _ _ _ _ c.requires.categories in
    c.loop-at.invariant.objects ∙ take_all c.loop-at.at list (omega (arith, long, c.loop-at-test.false))

pub returns-clause-alone : goal.returns-clause-alone
returns-clause-alone c =
    let nodes = c.args.nodes.now in
    All-same (IsAlone c.args.b.now.snapshots nodes) nodes (take c.loop-at.at nodes) (sym (take_all c.loop-at.at nodes (omega (arith, c.loop-at-test.false)))) c.loop-at.invariant.alone
