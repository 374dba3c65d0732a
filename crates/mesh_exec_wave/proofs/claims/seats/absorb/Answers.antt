use Rattle.std.proofs.Common.{rules}
use Rattle.mesh_exec_wave.proofs.claims.Steps.{joins}
use Rattle.mesh_exec_wave.proofs.claims.seats.absorb.Goals as goal

pub join_seat-requires : goal.join_seat-requires
join_seat-requires c = (search rules, search rules, search rules, search rules, joins _ _ _ _)
