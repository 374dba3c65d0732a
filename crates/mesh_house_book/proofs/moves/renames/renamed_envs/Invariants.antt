use Rattle.std.proofs.Common.{◌≡◌, take, map}
use Rattle.mesh_house_book.specs.moves.Moves.{renames_of}
use Rattle.mesh_house_book.specs.moves.Renames.{renamed_env}
use Rattle.mesh_house_book.proofs.moves.renames.renamed_envs.Given as goal

abbrev pub invariant-loop-env : goal.invariant-loop-env
invariant-loop-env l = l.made.items ≡ map (renamed_env (renames_of l.moves)) (take l.env-index l.environments)
