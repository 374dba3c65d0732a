use Rattle.std.proofs.Common.{take}
use Rattle.std.specs.List.{AllZip}
use Rattle.mesh_plan.specs.Entries.{IsRecorded}
use Rattle.mesh_plan.proofs.running.kept_entries.Given as goal

abbrev pub invariant-loop-node : goal.invariant-loop-node
invariant-loop-node l = AllZip (IsRecorded l.b) (take l.node-index l.nodes) l.entries
