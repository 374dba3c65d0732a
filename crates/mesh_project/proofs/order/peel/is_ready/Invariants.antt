use Rattle.std.proofs.Common.{◌≡◌, true, take}
use Rattle.std.specs.Prelude.{nat_lt, slice_index}
use Rattle.std.specs.List.{list_all}
use Rattle.mesh_project.proofs.order.peel.is_ready.Given as goal

abbrev pub invariant-loop-parent : goal.invariant-loop-parent
invariant-loop-parent l = list_all (λ p. nat_lt (slice_index l.ranks p) l.rank) (take l.parent-index l.parent-items) ≡ true
