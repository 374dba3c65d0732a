use Rattle.std.proofs.Common.{◌≡◌, ◌++◌, take}
use Rattle.std.specs.List.{flat_map}
use Rattle.mesh_spec_changes.specs.Kept.{leaving, removes}
use Rattle.mesh_janitor.proofs.janitor.changes.push_leaving.Given as goal

abbrev pub invariant-loop-env : goal.invariant-loop-env
invariant-loop-env l = l.changes ≡ l.initial.changes ++ flat_map removes (leaving l.t (take l.env-index l.envs))
