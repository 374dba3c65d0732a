use Rattle.std.proofs.Common.{◌≡◌, ◌-◌, take, map}
use Rattle.std.specs.List.{sum}
use Rattle.std.specs.Option.{option_map}
use Rattle.mesh_query.specs.Sizes.{operators}
use Rattle.mesh_query_grammar.specs.declared.surface.expressions.OrExpr.{out-OrExpr}
use Rattle.mesh_query_grammar.specs.declared.surface.expressions.AndExpr.{out-AndExpr}
use Rattle.mesh_query_grammar.specs.declared.surface.expressions.CatExpr.{out-CatExpr}
use Rattle.mesh_query_grammar.specs.declared.surface.expressions.AddExpr.{out-AddExpr}
use Rattle.mesh_query_grammar.specs.declared.surface.expressions.MulExpr.{out-MulExpr}
use Rattle.mesh_resolve_scope.specs.Sizes.{size, and_size, not_size, sum_size, product_size, add_size, unary_size, mul_size, arm_size, when_size}
use Rattle.mesh_resolve_scope.proofs.sizes.+sizes.Given as goal

abbrev pub invariant-room_beside-loop-part : goal.invariant-room_beside-loop-part
invariant-room_beside-loop-part l = l.left ≡ l.fn.room - operators (map and_size (out-OrExpr l.e).parts) - sum (map and_size (take l.part-index (out-OrExpr l.e).parts))

abbrev pub invariant-and_room-loop-part : goal.invariant-and_room-loop-part
invariant-and_room-loop-part l = l.left ≡ l.fn.room - operators (map not_size (out-AndExpr l.e).parts) - sum (map not_size (take l.part-index (out-AndExpr l.e).parts))

abbrev pub invariant-room_beside_all-loop-e : goal.invariant-room_beside_all-loop-e
invariant-room_beside_all-loop-e l = l.left ≡ l.fn.room - sum (map size (take l.e-index l.all))

abbrev pub invariant-cat_room-loop-part : goal.invariant-cat_room-loop-part
invariant-cat_room-loop-part l = l.left ≡ l.fn.room - operators (map sum_size (out-CatExpr l.e).parts) - sum (map sum_size (take l.part-index (out-CatExpr l.e).parts))

abbrev pub invariant-sum_room-loop-step : goal.invariant-sum_room-loop-step
invariant-sum_room-loop-step l = l.left ≡ l.fn.room - product_size (out-AddExpr l.e).first - sum (map add_size (take l.step-index (out-AddExpr l.e).rest))

abbrev pub invariant-product_room-loop-step : goal.invariant-product_room-loop-step
invariant-product_room-loop-step l = l.left ≡ l.fn.room - unary_size (out-MulExpr l.e).first - sum (map mul_size (take l.step-index (out-MulExpr l.e).rest))

abbrev pub invariant-arms_room-loop-arm : goal.invariant-arms_room-loop-arm
invariant-arms_room-loop-arm l = l.left ≡ l.fn.room - sum (map (when_size (option_map size l.operand)) (map arm_size (take l.arm-index l.arms)))
