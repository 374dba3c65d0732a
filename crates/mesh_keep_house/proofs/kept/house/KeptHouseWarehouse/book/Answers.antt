use Rattle.std.proofs.Common.{refl}
use Rattle.mesh_house.specs.World.{book}
use Rattle.mesh_keep_house.proofs.kept.Told.{reads_held}
use Rattle.mesh_keep_house.proofs.kept.house.KeptHouseWarehouse.book.Goals as goal

pub returns-in_ok-copy-in-Some-clause-told : goal.returns-in_ok-copy-in-Some-clause-told
returns-in_ok-copy-in-Some-clause-told g c =
    let ready = c.in_ok-ready.ensures in
    let now = c.ready.new.self in
    reads_held _ book c.in_ok-copy-in-Some.field-0 c.in_ok-ready.field-0 _ _ (g.K.Keeper.told c.args.self.now.keeper).records (g.K.Keeper.told now.keeper).records now.world c.in-Some.world ready.told refl ready.records now.held c.in-Some.is c.in_ok-copy-in-Some.ensures
