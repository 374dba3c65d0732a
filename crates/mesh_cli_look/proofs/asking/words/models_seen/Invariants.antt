use Rattle.std.proofs.Common.{◌≡◌, take, map}
use Rattle.mesh_cli_look.specs.asking.Fetched.{model_seen}
use Rattle.mesh_cli_look.proofs.asking.words.models_seen.Given as goal

-- the models so far are seen
abbrev pub invariant-loop-r : goal.invariant-loop-r
invariant-loop-r l = l.models ≡ map (model_seen l.all) (take l.r-index l.list)
