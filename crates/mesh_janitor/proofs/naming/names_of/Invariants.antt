use Rattle.std.proofs.Common.{◌≡◌, take, map}
use Rattle.mesh_base.specs.Keys.{ref_name}
use Rattle.mesh_janitor.proofs.naming.names_of.Given as goal

abbrev pub invariant-loop-r : goal.invariant-loop-r
invariant-loop-r l = l.names ≡ map ref_name (take l.r-index l.refs)
