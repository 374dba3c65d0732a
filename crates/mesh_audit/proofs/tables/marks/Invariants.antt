use Rattle.std.proofs.Common.{◌≡◌, take, map}
use Rattle.mesh_audit.specs.Pools.{marks, plain}
use Rattle.mesh_audit.proofs.tables.marks.Given as goal

abbrev pub invariant-loop-m : goal.invariant-loop-m
invariant-loop-m l = l.made ≡ marks l.q (map plain (take l.m-index l.all))
