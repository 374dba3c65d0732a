use Rattle.std.proofs.Common.{◌≡◌, length, rules, arith}
use Rattle.std.proofs.lemmas.Grind.{common_steps}
use Rattle.mesh_cli_print.specs.printed.Reports.{migrated_line}
use Rattle.mesh_cli_apply.proofs.Migrated.{moved_on}
use Rattle.mesh_cli_apply.proofs.migrating.move_by.Goals as goal

pub returns-in-Ok : goal.returns-in-Ok
returns-in-Ok g c =
    let line : c.in-Ok.line ≡ migrated_line (length c.args.b.now.snapshots) = first_of (search rules, grind (arith, common_steps)) in
    moved_on c.args.b.now c.requires.well_formed _ c.requires.has c.requires.former c.args.renames c.requires.map c.requires.apart _ c.in-Ok.line c.moved.result line c.moved.ensures
