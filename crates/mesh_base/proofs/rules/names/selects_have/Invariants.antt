use Rattle.std.proofs.Common.{◌≡◌, take}
use Rattle.mesh_base.specs.rules.Proper.{is_among, selects_names}
use Rattle.mesh_base.proofs.rules.names.selects_have.Given as goal

abbrev pub invariant-loop-select : goal.invariant-loop-select
invariant-loop-select l = l.found ≡ is_among (selects_names (take l.select-index l.selects)) l.name
