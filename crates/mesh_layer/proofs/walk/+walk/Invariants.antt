use Rattle.std.proofs.Common.{◌≡◌, ◌*◌, ◌+◌, ◌≤◌, take, map, Some}
use Rattle.mesh_spec_changes.specs.shown.Shown.{each_there, rows_through, target_table}
use Rattle.mesh_layer.specs.Read.{AreKnown, Given}
use Rattle.mesh_layer.proofs.Finding.{Has}
use Rattle.mesh_layer.proofs.walk.+walk.Given as goal

abbrev pub decreases-rows_behind : goal.decreases-rows_behind
decreases-rows_behind g l = 5 * l.depth + 1

abbrev pub decreases-query_behind : goal.decreases-query_behind
decreases-query_behind g l = 5 * l.depth

abbrev pub decreases-stored_behind : goal.decreases-stored_behind
decreases-stored_behind g l = 5 * l.depth + 4

abbrev pub decreases-tables_behind : goal.decreases-tables_behind
decreases-tables_behind g l = 5 * l.depth + 3

abbrev pub decreases-object_behind : goal.decreases-object_behind
decreases-object_behind g l = 5 * l.depth + 2

-- the targets so far are tables
abbrev pub invariant-tables_behind-loop-target : goal.invariant-tables_behind-loop-target
invariant-tables_behind-loop-target g l =
    (l.height ≤ l.depth)
    × Has (λ w. Given w l.fn.known) (λ w. AreKnown w l.known × (each_there (map (target_table (rows_through l.height w) w) (take l.target-index l.targets)) ≡ Some l.tables)) (g.W.Warehouse.told l.fn.house) (g.W.Warehouse.told l.house)
