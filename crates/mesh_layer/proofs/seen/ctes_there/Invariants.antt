use Rattle.std.proofs.Common.{◌≡◌, take, drop, []}
use Rattle.mesh_spec_changes.specs.shown.Shown.{ctes_there, stored_relations}
use Rattle.mesh_layer.proofs.seen.ctes_there.Given as goal

abbrev pub invariant-loop-i : goal.invariant-loop-i
invariant-loop-i l = ctes_there (stored_relations l.own l.targets) (take l.i l.ctes) (drop l.i l.ctes) ≡ ctes_there (stored_relations l.own l.targets) [] l.ctes
