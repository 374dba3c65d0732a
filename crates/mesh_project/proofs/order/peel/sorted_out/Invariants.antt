use Rattle.std.proofs.Common.{◌≡◌, take, not}
use Rattle.std.specs.Prelude.{filter}
use Rattle.mesh_project.specs.order.Peeled.{is_ready}
use Rattle.mesh_project.proofs.order.peel.sorted_out.Given as goal

abbrev pub invariant-loop-at : goal.invariant-loop-at
invariant-loop-at l = record {
  ready : l.ready ≡ filter (is_ready l.links l.ranks l.rank) (take l.at-index l.rest);
  later : l.later ≡ filter (λ at. not (is_ready l.links l.ranks l.rank at)) (take l.at-index l.rest);
}
