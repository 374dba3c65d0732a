use Rattle.std.proofs.Common.{inr, refl}
use Rattle.mesh_cli.proofs.promise.Promising.{script_promised}
use Rattle.mesh_cli.proofs.cli.batches.batch.Goals as goal

pub returns-in-Err-clause-promise : goal.returns-in-Err-clause-promise
returns-in-Err-clause-promise g c = script_promised c.the_empty_world_is_sound.ensures _ _ _ _ _ _ _ (inr (refl, c.printed.ensures))
