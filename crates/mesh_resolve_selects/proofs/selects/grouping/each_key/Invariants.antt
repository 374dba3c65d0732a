use Rattle.std.proofs.Common.{◌≡◌, take, Ok}
use Rattle.mesh_resolve_selects.specs.selects.Standing.{each, is_right_key}
use Rattle.mesh_resolve_selects.proofs.selects.grouping.each_key.Given as goal

abbrev pub invariant-loop-k : goal.invariant-loop-k
invariant-loop-k l = each is_right_key (take l.k-index l.keys) ≡ Ok tt
