use Rattle.std.proofs.Common.{◌≡◌, ◌≤◌, length, take}
use Rattle.mesh_spec_changes.specs.Kept.{leaving}
use Rattle.mesh_janitor.proofs.janitor.changes.count_leaving.Given as goal

abbrev pub invariant-loop-env : goal.invariant-loop-env
invariant-loop-env l = (l.count ≡ length (leaving l.t (take l.env-index l.envs))) × (l.count ≤ l.env-index)
