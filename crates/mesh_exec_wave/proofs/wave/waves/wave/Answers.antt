use denote.Param.Send.{sendable}
use Rattle.mesh_exec_wave.proofs.wave.Crossing.{guarded_sync}
use Rattle.mesh_exec_wave.proofs.wave.waves.wave.Goals as goal

pub rows_of_all-requires-sync-U : goal.rows_of_all-requires-sync-U
rows_of_all-requires-sync-U g c κs within = let s = c.type_bounds.sync-G in search (sendable, guarded_sync) depth 10
