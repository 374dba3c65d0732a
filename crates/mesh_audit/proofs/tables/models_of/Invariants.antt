use Rattle.std.proofs.Common.{◌≡◌, ◌++◌, drop, map}
use Rattle.mesh_audit.specs.Audited.{placed}
use Rattle.mesh_audit.specs.Pools.{plain}
use Rattle.mesh_audit.proofs.tables.models_of.Given as goal

-- the models so far and those that are left are all
abbrev pub invariant-loop-node : goal.invariant-loop-node
invariant-loop-node l = map plain l.all ++ placed (drop l.node-index l.nodes) l.rest ≡ placed l.nodes l.entries
