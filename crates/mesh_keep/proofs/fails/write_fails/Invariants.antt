use Rattle.std.proofs.Common.{◌≡◌, drop}
use Rattle.mesh_house.specs.Fails.{change_fails}
use Rattle.mesh_keep.proofs.fails.write_fails.Given as goal

abbrev pub invariant-loop-fail : goal.invariant-loop-fail
invariant-loop-fail l = change_fails (drop l.fail-index l.fails) l.number ≡ change_fails l.fails l.number
