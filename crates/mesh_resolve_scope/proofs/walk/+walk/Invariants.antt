use Rattle.std.proofs.Common.{take, map, None, []}
use Rattle.mesh_query_grammar.specs.declared.surface.expressions.OrExpr.{out-OrExpr}
use Rattle.mesh_query_grammar.specs.declared.surface.expressions.AndExpr.{out-AndExpr}
use Rattle.mesh_query_grammar.specs.declared.surface.expressions.CatExpr.{out-CatExpr}
use Rattle.mesh_query_grammar.specs.declared.surface.expressions.AddExpr.{out-AddExpr}
use Rattle.mesh_query_grammar.specs.declared.surface.expressions.MulExpr.{out-MulExpr}
use Rattle.mesh_query_tokens.specs.Gives.{◌>>=◌, Gives}
use Rattle.mesh_query_tokens.specs.Walk.{along, one_more}
use Rattle.mesh_resolve_types.specs.Forms.{either, both, joined}
use Rattle.mesh_resolve_scope.specs.Expressions.{one_step, typed, and_typed, not_typed, sum_typed, product_typed, unary_typed, add_typed, mul_typed, arm_typed}
use Rattle.mesh_resolve_scope.specs.Steps.{over, next_part}
use Rattle.mesh_resolve_scope.proofs.walk.+walk.Given as goal

abbrev pub invariant-typed-loop-part : goal.invariant-typed-loop-part
invariant-typed-loop-part l = Gives l.left (along (over (next_part (either (out-OrExpr l.e).at))) None (map (and_typed l.sight) (take l.part-index l.part-items)))

abbrev pub invariant-and_typed-loop-part : goal.invariant-and_typed-loop-part
invariant-and_typed-loop-part l = Gives l.left (along (over (next_part (both (out-AndExpr l.e).at))) None (map (not_typed l.sight) (take l.part-index l.part-items)))

abbrev pub invariant-cat_typed-loop-part : goal.invariant-cat_typed-loop-part
invariant-cat_typed-loop-part l = Gives l.left (along (over (next_part (joined (out-CatExpr l.e).at))) None (map (sum_typed l.sight) (take l.part-index l.part-items)))

abbrev pub invariant-sum_typed-loop-step : goal.invariant-sum_typed-loop-step
invariant-sum_typed-loop-step l = Gives l.left (product_typed l.sight (out-AddExpr l.e).first >>= λ s. along (one_step (out-AddExpr l.e).at) s (map (add_typed l.sight) (take l.step-index l.step-items)))

abbrev pub invariant-product_typed-loop-step : goal.invariant-product_typed-loop-step
invariant-product_typed-loop-step l = Gives l.left (unary_typed l.sight (out-MulExpr l.e).first >>= λ s. along (one_step (out-MulExpr l.e).at) s (map (mul_typed l.sight) (take l.step-index l.step-items)))

abbrev pub invariant-all_typed-loop-e : goal.invariant-all_typed-loop-e
invariant-all_typed-loop-e l = Gives l.made (along one_more [] (map (typed l.sight) (take l.e-index l.e-items)))

abbrev pub invariant-arms_typed-loop-arm : goal.invariant-arms_typed-loop-arm
invariant-arms_typed-loop-arm l = Gives l.made (along one_more [] (map (arm_typed l.sight) (take l.arm-index l.arm-items)))
