use Rattle.std.proofs.Common.{◌≡◌, take}
use Rattle.std.specs.List.{list_any}
use Rattle.mesh_trace.specs.Impacts.{leads}
use Rattle.mesh_trace.proofs.hits.some_lead.Given as goal

abbrev pub invariant-loop-r : goal.invariant-loop-r
invariant-loop-r l = l.found ≡ list_any (leads l.nodes l.hits l.parents l.source) (take l.r-index l.needed)
