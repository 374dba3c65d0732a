use Rattle.std.proofs.Common.{rules}
use mathlib.Core.Option.{none}
use Rattle.atomic_table.specs.Table.{step}
use Rattle.mesh_exec_wave.proofs.claims.Steps.{draws}
use Rattle.mesh_exec_wave.proofs.claims.seats.draw.Goals as goal

pub fetch_add-requires : goal.fetch_add-requires
fetch_add-requires c = (search rules, search rules, draws _ _ _ (step 0 0 0 0 none) c.requires.some_part)
