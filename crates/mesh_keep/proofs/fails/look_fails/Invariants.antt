use Rattle.std.proofs.Common.{◌≡◌, drop}
use Rattle.mesh_house.specs.Fails.{read_fails}
use Rattle.mesh_keep.proofs.fails.look_fails.Given as goal

abbrev pub invariant-loop-fail : goal.invariant-loop-fail
invariant-loop-fail l = read_fails (drop l.fail-index l.fails) l.number ≡ read_fails l.fails l.number
