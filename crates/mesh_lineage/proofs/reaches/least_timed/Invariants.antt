use Rattle.std.proofs.Common.{◌≡◌, take}
use Rattle.std.specs.Option.{option_copied}
use Rattle.mesh_lineage.specs.Unsteady.{least, timed_names_of}
use Rattle.mesh_lineage.proofs.reaches.least_timed.Given as goal

abbrev pub invariant-loop-d : goal.invariant-loop-d
invariant-loop-d l = option_copied l.found ≡ least (timed_names_of (take l.d-index l.d-items))
