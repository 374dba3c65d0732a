use Rattle.std.proofs.Common.{codes}
use Rattle.mesh_io.specs.Held.{folder_told}
use Rattle.mesh_cli.specs.demo.Demos.{FilesGive, FilesMake, ProdRan, dev, here, units_of}
use Rattle.mesh_cli.proofs.demo.Playing.{at_value, ended_by, went_on}
use Rattle.mesh_cli.proofs.demo.play.dev_applied.Goals as goal

pub returns-in-Err : goal.returns-in-Err
returns-in-Err g c = ended_by (FilesMake (folder_told c.args.folder.now).files here dev) (FilesGive (folder_told c.args.folder.now).files here dev) (units_of (codes "apply dev: ")) ProdRan c.args.house.now c.apply.new.house c.look.ensures c.in-Err.refusal _
    (at_value (λ d. FilesMake (folder_told c.args.folder.now).files d dev) (λ d. FilesGive (folder_told c.args.folder.now).files d dev) _ _ _ _ here c.in_ok-dir.ensures
    (at_value (λ e. FilesMake (folder_told c.args.folder.now).files c.in_ok-dir.dir e) (λ e. FilesGive (folder_told c.args.folder.now).files c.in_ok-dir.dir e) _ _ _ _ dev c.in_ok-env.ensures c.in-Err.ensures.answers)) c.ended.ensures

pub returns : goal.returns
returns g c = went_on (FilesMake (folder_told c.args.folder.now).files here dev) (FilesGive (folder_told c.args.folder.now).files here dev) (units_of (codes "apply dev: ")) ProdRan c.args.house.now c.apply.new.house c.look.ensures c.in-Ok.answer _ _
    (at_value (λ d. FilesMake (folder_told c.args.folder.now).files d dev) (λ d. FilesGive (folder_told c.args.folder.now).files d dev) _ _ _ _ here c.in_ok-dir.ensures
    (at_value (λ e. FilesMake (folder_told c.args.folder.now).files c.in_ok-dir.dir e) (λ e. FilesGive (folder_told c.args.folder.now).files c.in_ok-dir.dir e) _ _ _ _ dev c.in_ok-env.ensures c.in-Ok.ensures.answers))
    c.prod_ran-rest.ensures c.with_units.ensures
