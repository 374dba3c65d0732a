use Rattle.std.proofs.Common.{◌≡◌, take}
use Rattle.mesh_spec_changes.specs.shown.Shown.{selects_there, stored_relations}
use Rattle.mesh_layer.proofs.seen.selects_there.Given as goal

abbrev pub invariant-loop-s : goal.invariant-loop-s
invariant-loop-s l = l.each ≡ selects_there (stored_relations l.own l.targets) l.ctes (take l.s-index l.selects)
