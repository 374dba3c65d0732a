use Rattle.std.proofs.Common.{◌≡◌, ◌++◌, take}
use Rattle.std.specs.List.{flat_map}
use Rattle.mesh_janitor.specs.janitor.Walk.{deletes_of, goes}
use Rattle.mesh_janitor.proofs.janitor.changes.push_layer.Given as goal

abbrev pub invariant-loop-s : goal.invariant-loop-s
invariant-loop-s l = l.changes ≡ l.initial.changes ++ flat_map (deletes_of (goes l.t l.wanted) l.rank) (take l.s-index l.all)
