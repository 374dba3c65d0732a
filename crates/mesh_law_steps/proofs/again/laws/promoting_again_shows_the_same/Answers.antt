use Rattle.mesh_law_steps.proofs.again.Promoting.{shown_again}
use Rattle.mesh_law_steps.proofs.again.laws.promoting_again_shows_the_same.Goals as goal

pub returns : goal.returns
returns c w plan typed k = shown_again w plan typed k
