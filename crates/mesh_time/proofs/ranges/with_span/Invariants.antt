use Rattle.std.proofs.Common.{◌≡◌, ◌++◌, drop, Some}
use Rattle.mesh_time.specs.Edits.{added}
use Rattle.mesh_time.proofs.ranges.with_span.Given as goal

abbrev pub invariant-loop-next : goal.invariant-loop-next
invariant-loop-next l = l.made ++ added l.new (drop l.next-index l.spans) ≡ added (Some l.fn.span) l.spans
