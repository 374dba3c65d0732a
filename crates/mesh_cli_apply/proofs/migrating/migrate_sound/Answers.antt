use Rattle.mesh_cli_apply.proofs.Migrated.{left_alone}
use Rattle.mesh_cli_apply.proofs.migrating.migrate_sound.Goals as goal

pub returns-else-b-eq-FORMER_VERSION : goal.returns-else-b-eq-FORMER_VERSION
returns-else-b-eq-FORMER_VERSION g c = left_alone c.args.b.now c.requires.well_formed _ c.requires.has c.if-b-eq-FORMER_VERSION.false c.line_of.result c.line_of.ensures.ok c.line_of.ensures.err
