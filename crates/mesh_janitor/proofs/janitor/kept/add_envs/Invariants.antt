use Rattle.std.proofs.Common.{◌≡◌, drop}
use Rattle.mesh_janitor.specs.janitor.Walk.{envs_after}
use Rattle.mesh_janitor.proofs.janitor.kept.add_envs.Given as goal

abbrev pub invariant-loop-env : goal.invariant-loop-env
invariant-loop-env l = envs_after l.t (drop l.env-index l.envs) l.wanted ≡ envs_after l.t l.envs l.initial.wanted
