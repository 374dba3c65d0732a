use Rattle.mesh_cli.proofs.promise.Calling.{apply_promoted}
use Rattle.mesh_cli.proofs.promise.stages.promotions_keep_worlds_sound.Goals as goal

pub returns : goal.returns
returns c before after x w was t real is = apply_promoted before after x w was t real is
