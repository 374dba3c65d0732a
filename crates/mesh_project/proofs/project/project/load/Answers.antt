use Rattle.std.proofs.Common.{Ok, Err}
use Rattle.mesh_base.specs.rules.Proper.{ProjectNodes}
use Rattle.mesh_project_files.specs.Project.{AreFiles}
use Rattle.mesh_project_files.proofs.Asking.{asks_alone, asks_err}
use Rattle.mesh_project.specs.project.Project.{IsLoaded}
use Rattle.mesh_project.proofs.project.Kept.{all_whole}
use Rattle.mesh_project.proofs.project.Meant.{refuses_itself}
use Rattle.mesh_project.proofs.project.project.load.Goals as goal

pub returns-in_err-files : goal.returns-in_err-files
returns-in_err-files g c =
    let fault = c.in_err-files.field-0.0 in
    let dir = c.args.dir.now in
    asks_err (λ fs. AreFiles fs dir) (λ fs. IsLoaded fs dir) _ _ fault c.from_residual.result c.in_err-files.ensures.says c.from_residual.ensures.1 (λ fs h. (Err fault, h, refuses_itself ProjectNodes fault))

pub project_of-requires : goal.project_of-requires
project_of-requires g c = all_whole c.in_ok-files.files.models c.in_ok-files.ensures.kept

pub returns : goal.returns
returns g c =
    let files = c.in_ok-files.files in
    let dir = c.args.dir.now in
    asks_alone (λ fs. AreFiles fs dir) (λ fs. IsLoaded fs dir) _ _ files c.project_of.result c.in_ok-files.ensures.says c.project_of.ensures.alone (λ fs h. (Ok files, h, c.project_of.ensures.meant))
