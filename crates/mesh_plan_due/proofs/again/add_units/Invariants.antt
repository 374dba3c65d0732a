use Rattle.std.proofs.Common.{◌≡◌, ◌++◌, length, map, reverse}
use Rattle.mesh_spec_changes.specs.due.Parts.{unit_of}
use Rattle.mesh_plan_due.proofs.again.add_units.Given as goal

abbrev pub invariant-loop-unit : goal.invariant-loop-unit
invariant-loop-unit l = l.forgets ++ map (unit_of l.object) (reverse l.rest.items) ≡ l.initial.forgets ++ map (unit_of l.object) (reverse l.initial.rest.items)

abbrev pub decreases-loop-unit : goal.decreases-loop-unit
decreases-loop-unit l = length l.rest.items
