use Rattle.mesh_cli_apply.proofs.Migrated.{clashing}
use Rattle.mesh_cli_apply.proofs.migrating.move_book.Goals as goal

pub returns-in-Err : goal.returns-in-Err
returns-in-Err g c = clashing c.args.b.now c.requires.well_formed _ c.requires.has c.requires.former c.in-Err.fault c.of_migration.result c.in-Err.ensures.refused c.of_migration.ensures
