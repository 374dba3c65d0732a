use Rattle.std.proofs.Common.{rules}
use mathlib.Core.Option.{none}
use Rattle.atomic_table.specs.Table.{step}
use Rattle.mesh_exec_wave.proofs.claims.Steps.{learns}
use Rattle.mesh_exec_wave.proofs.claims.seats.drawn_so_far.Goals as goal

pub load-requires : goal.load-requires
load-requires c = (search rules, search rules, learns _ _ _ (step 0 0 0 0 none) c.requires.all)
