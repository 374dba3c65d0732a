use Rattle.std.proofs.Common.{refl}
use Rattle.std.specs.Option.{is_none}
use Rattle.std.specs.BTreeMap.{get}
use Rattle.mesh_base_values.specs.Names.{name_cmp}
use Rattle.mesh_base_values.specs.declared.values.Name.{Name}
use Rattle.mesh_category.proofs.category.Places.{gone_so_far}
use Rattle.mesh_category.proofs.category.named.gone.Goals as goal

pub loop-node-preserved : goal.loop-node-preserved
loop-node-preserved c =
    let name : Name = c.node-item.result.own.name in
    gone_so_far c.args.olds.now c.args.news.now c.loop-node.node-index c.node-item.result c.loop-node-test.true c.node-item.is
    (get name_cmp c.in_ok-places.places name) (c.in_ok-places.ensures name)
    (is_none (get name_cmp c.in_ok-places.places name)) refl c.loop-node.made _ c.loop-node.invariant c.in_ok-push_gone.ensures
