use Rattle.mesh_exec_wave.proofs.wave.Ascending.{sorted_rows}
use Rattle.mesh_exec.proofs.fills.sorted.Goals as goal

pub returns : goal.returns
returns c = sorted_rows c.args.rows _ c.sort_rows.ensures.bag c.sort_rows.ensures.ascending
