use Rattle.std.proofs.Common.{◌≡◌, ◌++◌, drop, map}
use Rattle.mesh_audit.specs.Audited.{asked}
use Rattle.mesh_audit.specs.Pools.{plain}
use Rattle.mesh_audit.proofs.tables.asked.Given as goal

abbrev pub invariant-loop-m : goal.invariant-loop-m
invariant-loop-m l = map plain l.models ++ asked (map plain (drop l.m-index l.all)) l.q ≡ asked (map plain l.all) l.q
