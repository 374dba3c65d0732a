use Rattle.mesh_keep_house.proofs.kept.Followed.{failed_steps, made_said, made_steps}
use Rattle.mesh_keep_house.proofs.kept.writing.written.Goals as goal

pub returns-in-Ok-clause-steps : goal.returns-in-Ok-clause-steps
returns-in-Ok-clause-steps g c =
    made_steps c.args.world.now c.stepped.new.world c.args.change.now c.in_ok-writes.writes c.in_ok-writes.ensures c.in-Ok.field-0
    (g.K.Keeper.told c.args.keeper.now) (g.K.Keeper.told c.write.new.self) c.requires c.in-Ok.ensures

pub returns-in-Ok-clause-said : goal.returns-in-Ok-clause-said
returns-in-Ok-clause-said g c =
    made_said c.args.world.now c.stepped.new.world c.args.change.now c.in_ok-writes.writes c.in_ok-writes.ensures c.in-Ok.field-0
    (g.K.Keeper.told c.args.keeper.now) (g.K.Keeper.told c.write.new.self) c.requires c.in-Ok.ensures

pub returns-in-Err-Failed-clause-steps : goal.returns-in-Err-Failed-clause-steps
returns-in-Err-Failed-clause-steps g c =
    failed_steps c.args.world.now c.stepped.new.world c.args.change.now c.in_ok-writes.writes c.in_ok-writes.ensures
    (g.K.Keeper.told c.args.keeper.now) (g.K.Keeper.told c.write.new.self) c.requires (rw c.in-Err-Failed.field-0-is at c.in-Err-Failed.ensures)
