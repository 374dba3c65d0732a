use Rattle.mesh_cli.proofs.promise.Undamaged.{never_answered, never_damaged}
use Rattle.mesh_cli.proofs.promise.stages.commands_never_find_damage.Goals as goal

pub returns-clause-gives : goal.returns-clause-gives
returns-clause-gives c = never_damaged

pub returns-clause-answers : goal.returns-clause-answers
returns-clause-answers c = never_answered
