use Rattle.mesh_exec_wave.proofs.claims.Steps.{opens}
use Rattle.mesh_exec_wave.proofs.claims.seats.table.Goals as goal

pub of_words-requires : goal.of_words-requires
of_words-requires c = opens
