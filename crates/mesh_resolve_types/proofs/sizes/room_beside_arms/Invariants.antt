use Rattle.std.proofs.Common.{◌≡◌, ◌-◌, take, map}
use Rattle.std.specs.List.{sum}
use Rattle.mesh_resolve_types.specs.Sizes.{arm_size}
use Rattle.mesh_resolve_types.proofs.sizes.room_beside_arms.Given as goal

abbrev pub invariant-loop-a : goal.invariant-loop-a
invariant-loop-a l = l.left ≡ l.fn.room - sum (map (arm_size l.operand) (take l.a-index l.arms))
