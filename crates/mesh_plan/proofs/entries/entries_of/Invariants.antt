use Rattle.std.proofs.Common.{◌≡◌, take}
use Rattle.mesh_plan.specs.Entries.{entries_of}
use Rattle.mesh_plan.proofs.entries.entries_of.Given as goal

abbrev pub invariant-loop-at : goal.invariant-loop-at
invariant-loop-at l = l.entries ≡ take l.at (entries_of l.b l.categories l.objects)
