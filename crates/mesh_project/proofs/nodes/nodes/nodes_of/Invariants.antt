use Rattle.std.proofs.Common.{◌≡◌, [], take, Ok}
use Rattle.mesh_project.specs.nodes.Nodes.{with_model}
use Rattle.mesh_project.specs.nodes.Walk.{along}
use Rattle.mesh_project.proofs.nodes.nodes.nodes_of.Given as goal

abbrev pub invariant-loop-next : goal.invariant-loop-next
invariant-loop-next l = record {
  sources : l.known.sources ≡ l.files.sources;
  so_far : along (with_model l.files.sources l.files.models) [] (take l.next-index l.order) ≡ Ok l.earlier;
}
