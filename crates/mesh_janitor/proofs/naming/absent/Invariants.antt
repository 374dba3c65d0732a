use Rattle.std.proofs.Common.{◌≡◌, take}
use Rattle.std.specs.List.{filter}
use Rattle.mesh_janitor.specs.promote.Promotion.{is_absent}
use Rattle.mesh_janitor.proofs.naming.absent.Given as goal

abbrev pub invariant-loop-name : goal.invariant-loop-name
invariant-loop-name l = l.made ≡ filter (is_absent l.names) (take l.name-index l.all)
