use Rattle.std.proofs.Common.{◌≡◌, take}
use Rattle.mesh_resolve_selects.specs.groups.Grouping.{is_key}
use Rattle.mesh_resolve_selects.proofs.groups.keys.is_key.Given as goal

abbrev pub invariant-loop-i : goal.invariant-loop-i
invariant-loop-i l = l.found ≡ is_key (take l.i l.keys) l.e
