use Rattle.std.proofs.Common.{ℕ, ◌++◌, ◌∙◌, ap}
use Rattle.std.specs.Option.{option_to_list}
use Rattle.std.specs.declared.option.Option.{Option}
use Rattle.std.specs.BTreeMap.{get}
use Rattle.mesh_base_values.specs.Names.{name_cmp}
use Rattle.mesh_project.proofs.order.Places.{found_more}
use Rattle.mesh_project.proofs.order.links.links_of_one.Goals as goal

pub loop-name-preserved : goal.loop-name-preserved
loop-name-preserved c = found_more (get name_cmp c.args.places.now) c.args.names.now c.loop-name.name-index c.name-item.result c.loop-name-test.true c.name-item.is c.loop-name.made _ c.loop-name.invariant
    (c.in_ok-push_found.ensures ∙ ap (λ (o : Option ℕ). c.loop-name.made ++ option_to_list o) (c.copied.ensures ∙ c.get.ensures.value))
