use Rattle.std.proofs.Common.{◌≡◌, take}
use Rattle.mesh_base.specs.rules.Seen.{are_there}
use Rattle.mesh_spec_changes.specs.shown.Shown.{stored_relations}
use Rattle.mesh_layer.proofs.seen.are_there.Given as goal

abbrev pub invariant-loop-f : goal.invariant-loop-f
invariant-loop-f l = l.each ≡ are_there (stored_relations l.own l.targets) l.ctes (take l.f-index l.from)
