use Rattle.std.proofs.Common.{◌≡◌, length}
use Rattle.std.specs.List.{list_any}
use Rattle.mesh_time.specs.CronText.{item_has, items}
use Rattle.mesh_time.proofs.fields.some_item_has.Given as goal

abbrev pub invariant-loop-rest : goal.invariant-loop-rest
invariant-loop-rest l = list_any (item_has l.low l.high l.value) (items l.rest) ≡ list_any (item_has l.low l.high l.value) (items l.fn.field)

abbrev pub decreases-loop-rest : goal.decreases-loop-rest
decreases-loop-rest l = length l.rest
