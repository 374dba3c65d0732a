use Rattle.std.proofs.Common.{◌≡◌, ◌-◌, take, map}
use Rattle.std.specs.List.{sum}
use Rattle.mesh_base.specs.Nodes.{nodes}
use Rattle.mesh_resolve_types.specs.Sizes.{when_size}
use Rattle.mesh_resolve_types.proofs.sizes.+sizes.Given as goal

abbrev pub invariant-room_beside_all-loop-e : goal.invariant-room_beside_all-loop-e
invariant-room_beside_all-loop-e l = l.left ≡ l.fn.room - sum (map nodes (take l.e-index l.all))

abbrev pub invariant-room_beside_whens-loop-w : goal.invariant-room_beside_whens-loop-w
invariant-room_beside_whens-loop-w l = l.left ≡ l.fn.room - sum (map when_size (take l.w-index l.whens))
