use Rattle.std.proofs.Common.{rules}
use Rattle.mesh_exec_wave.proofs.claims.Steps.{splits}
use Rattle.mesh_exec_wave.proofs.claims.seats.another.Goals as goal

pub split_seat-requires : goal.split_seat-requires
split_seat-requires c = (search rules, search rules, splits _ _)
