use Rattle.std.proofs.Common.{◌≡◌, ◌||◌, take}
use Rattle.std.specs.List.{list_any}
use Rattle.mesh_trace.specs.Impacts.{is_source, leads_at}
use Rattle.mesh_trace.proofs.hits.leads.Given as goal

abbrev pub invariant-loop-place : goal.invariant-loop-place
invariant-loop-place l = l.found ≡ (is_source l.source l.r || list_any (leads_at l.nodes l.hits l.r) (take l.place-index l.parents))
