use Rattle.mesh_project_files.specs.Models.{IsFileRead}
use Rattle.mesh_project_files.proofs.Asking.{asks_memory}
use Rattle.mesh_project_files.proofs.Reading.{file_unknown}
use Rattle.mesh_project_files.proofs.models.read_file.Goals as goal

pub returns-in_err-file-clause-says : goal.returns-in_err-file-clause-says
returns-in_err-file-clause-says g c =
    let dir = c.args.dir.now in
    let path = c.args.path.now in
    asks_memory (λ fs. IsFileRead fs dir path) _ c.from_residual.result c.from_residual.ensures.1 (λ fs. file_unknown fs dir path)
