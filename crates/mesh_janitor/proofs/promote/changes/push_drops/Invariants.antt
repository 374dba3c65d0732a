use Rattle.std.proofs.Common.{◌≡◌, ◌++◌, take, map}
use Rattle.mesh_spec_changes.specs.Changes.{drops}
use Rattle.mesh_janitor.proofs.promote.changes.push_drops.Given as goal

abbrev pub invariant-loop-name : goal.invariant-loop-name
invariant-loop-name l = l.changes ≡ l.initial.changes ++ map (drops l.env) (take l.name-index l.names)
