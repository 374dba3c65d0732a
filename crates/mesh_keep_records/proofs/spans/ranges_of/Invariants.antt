use Rattle.std.proofs.Common.{take}
use Rattle.std.specs.Prelude.{◌↔◌, ℤ}
use Rattle.mesh_time.specs.Ranges.{Has}
use Rattle.mesh_keep_records.proofs.spans.ranges_of.Given as goal

abbrev pub invariant-loop-span : goal.invariant-loop-span
invariant-loop-span l = (t : ℤ) → Has l.made t ↔ Has (take l.span-index l.spans) t
