use Rattle.std.specs.Prelude.{codes}
use Rattle.mesh_project_files.specs.Loading.{Gives}
use Rattle.mesh_project_files.specs.Models.{file_within, IsModelFileRead}
use Rattle.mesh_project_files.proofs.Asking.{asks_err}
use Rattle.mesh_project_files.proofs.Reading.{content_err}
use Rattle.mesh_project_files.proofs.models.model_file.Goals as goal

pub returns-in_err-read_within-clause-says : goal.returns-in_err-read_within-clause-says
returns-in_err-read_within-clause-says g c =
    let dir = c.args.dir.now in
    let file = c.args.file.now in
    let fault = c.in_err-read_within.field-0.0 in
    asks_err (λ fs r. Gives r (file_within fs dir file (codes "file") 1048576)) (λ fs. IsModelFileRead fs dir file) _ _ fault c.from_residual.result c.in_err-read_within.ensures c.from_residual.ensures.1
    (λ fs e. content_err fs dir file (file_within fs dir file (codes "file") 1048576) fault e)
