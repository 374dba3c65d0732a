use Rattle.mesh_law_steady.proofs.Worlds.{nothing_moves}
use Rattle.mesh_law_steady.proofs.laws.nothing_moves_in_steady_projects.Goals as goal

pub returns : goal.returns
returns c = nothing_moves
