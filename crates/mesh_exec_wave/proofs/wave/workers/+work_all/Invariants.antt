use Rattle.std.proofs.Common.{◌+◌, ◌*◌}
use Rattle.mesh_exec_wave.proofs.wave.workers.+work_all.Given as goal

abbrev pub decreases-left : goal.decreases-left
decreases-left g l = 2 * l.half + 1

abbrev pub decreases-right : goal.decreases-right
decreases-right g l = 2 * l.others + 1

abbrev pub decreases-work_all : goal.decreases-work_all
decreases-work_all g l = 2 * l.workers
