use Rattle.std.proofs.Common.{◌≡◌, drop}
use Rattle.std.specs.List.{list_any}
use Rattle.mesh_base.specs.declared.snapshots.Node.{Node}
use Rattle.mesh_spec_changes.specs.due.Parts.{same_name}
use Rattle.mesh_cli_apply.proofs.planned.is_named.Given as goal

abbrev pub invariant-loop-node : goal.invariant-loop-node
invariant-loop-node l = list_any (λ (n : Node). same_name n.own.name l.name) (drop l.node-index l.nodes) ≡ list_any (λ (n : Node). same_name n.own.name l.name) l.nodes
