use Rattle.std.proofs.Common.{◌≡◌, take}
use Rattle.std.specs.List.{flat_map}
use Rattle.mesh_time.specs.Edits.{pieces}
use Rattle.mesh_time.proofs.ranges.without_span.Given as goal

abbrev pub invariant-loop-span : goal.invariant-loop-span
invariant-loop-span l = l.made ≡ flat_map (pieces l.gone) (take l.span-index l.spans)
