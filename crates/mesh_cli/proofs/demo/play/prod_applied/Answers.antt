use Rattle.std.proofs.Common.{codes, option_map}
use Rattle.mesh_io.specs.Held.{folder_told}
use Rattle.mesh_cli.specs.demo.Demos.{DevApplied, FilesGive, FilesMake, here, prod, units_of}
use Rattle.mesh_cli.specs.demo.Shop.{edited}
use Rattle.mesh_cli.proofs.demo.Playing.{at_value, ended_by, still, went_on}
use Rattle.mesh_cli.proofs.demo.play.prod_applied.Goals as goal

pub returns-in-Err : goal.returns-in-Err
returns-in-Err g c = ended_by (FilesMake (folder_told c.args.folder.now).files here prod) (FilesGive (folder_told c.args.folder.now).files here prod) (units_of (codes "apply prod: ")) (DevApplied (option_map edited (folder_told c.args.folder.now).files)) c.args.house.now c.apply.new.house c.look.ensures c.in-Err.refusal _
    (at_value (λ d. FilesMake (folder_told c.args.folder.now).files d prod) (λ d. FilesGive (folder_told c.args.folder.now).files d prod) _ _ _ _ here c.in_ok-dir.ensures
    (at_value (λ e. FilesMake (folder_told c.args.folder.now).files c.in_ok-dir.dir e) (λ e. FilesGive (folder_told c.args.folder.now).files c.in_ok-dir.dir e) _ _ _ _ prod c.in_ok-env.ensures c.in-Err.ensures.answers)) c.ended.ensures

pub returns : goal.returns
returns g c = went_on (FilesMake (folder_told c.args.folder.now).files here prod) (FilesGive (folder_told c.args.folder.now).files here prod) (units_of (codes "apply prod: ")) (DevApplied (option_map edited (folder_told c.args.folder.now).files)) c.args.house.now c.apply.new.house c.look.ensures c.in-Ok.answer _ _
    (at_value (λ d. FilesMake (folder_told c.args.folder.now).files d prod) (λ d. FilesGive (folder_told c.args.folder.now).files d prod) _ _ _ _ here c.in_ok-dir.ensures
    (at_value (λ e. FilesMake (folder_told c.args.folder.now).files c.in_ok-dir.dir e) (λ e. FilesGive (folder_told c.args.folder.now).files c.in_ok-dir.dir e) _ _ _ _ prod c.in_ok-env.ensures c.in-Ok.ensures.answers))
    (still (λ files. DevApplied (option_map edited files)) _ _ _ _ (c.in-Ok.ensures.folder).files c.edited-rest.ensures) c.with_units.ensures
