use Rattle.std.proofs.Common.{ap, ◌∙◌}
use Rattle.std.specs.Prelude.{Err}
use Rattle.mesh_keep_house.proofs.kept.Told.{none_told}
use Rattle.mesh_keep_house.proofs.kept.house.KeptHouse.ready.Goals as goal

pub returns-in-Err-Unread-clause-only : goal.returns-in-Err-Unread-clause-only
returns-in-Err-Unread-clause-only g c =
    let unread = c.load.ensures.unread (c.in-Err-Unread.is ∙ ap Err c.in-Err-Unread.field-0-is) in
    let records = (g.K.Keeper.told c.args.self.now.keeper).records in
    record {
      unread = λ told. absurd (none_told records unread told);
      failed = λ told e. absurd (none_told records unread told);
    }
