use Rattle.std.proofs.Common.{◌≡◌, take}
use Rattle.std.specs.List.{list_any}
use Rattle.mesh_trace.specs.Impacts.{all_at}
use Rattle.mesh_trace.proofs.hits.some_all.Given as goal

abbrev pub invariant-loop-place : goal.invariant-loop-place
invariant-loop-place l = l.found ≡ list_any (all_at l.hits) (take l.place-index l.parents)
