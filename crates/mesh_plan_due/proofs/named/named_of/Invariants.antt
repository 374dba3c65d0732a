use Rattle.std.proofs.Common.{◌≡◌, length, map, take}
use Rattle.std.specs.Option.{option_copied}
use Rattle.mesh_spec_model.specs.Closures.{closures}
use Rattle.mesh_spec_changes.specs.due.Dues.{restates}
use Rattle.mesh_plan_due.proofs.named.named_of.Given as goal

abbrev pub invariant-loop-node : goal.invariant-loop-node
invariant-loop-node l = record {
  named : l.made.items ≡ map (restates (option_copied l.restate)) (closures (take l.node-index l.nodes));
  long : length l.made.items ≡ l.node-index;
}
