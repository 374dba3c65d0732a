use Rattle.std.proofs.Common.{◌≡◌, map}
use Rattle.mesh_query_tokens.specs.Walk.{all_of, along, one_more}
use Rattle.std.specs.Vec.Iter.{into_iter_items}
use Rattle.mesh_resolve_types.specs.Forms.{arm}
use Rattle.mesh_resolve_types.proofs.cases.tested.Given as goal

abbrev pub invariant-loop-a : goal.invariant-loop-a
invariant-loop-a l = all_of (map (arm l.at l.operand) l.fn.arms) ≡ along one_more l.made (map (arm l.at l.operand) (into_iter_items l.a-iterator))
