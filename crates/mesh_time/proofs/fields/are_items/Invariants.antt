use Rattle.std.proofs.Common.{◌≡◌, length}
use Rattle.std.specs.List.{list_all}
use Rattle.mesh_time.specs.CronText.{is_item, items}
use Rattle.mesh_time.proofs.fields.are_items.Given as goal

abbrev pub invariant-loop-rest : goal.invariant-loop-rest
invariant-loop-rest l = list_all (is_item l.low l.high) (items l.rest) ≡ list_all (is_item l.low l.high) (items l.fn.field)

abbrev pub decreases-loop-rest : goal.decreases-loop-rest
decreases-loop-rest l = length l.rest
