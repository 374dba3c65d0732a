use Rattle.mesh_project_files.specs.Loading.{Gives}
use Rattle.mesh_project_files.specs.Project.{sources_in, AreFiles}
use Rattle.mesh_project_files.proofs.Asking.{asks_err}
use Rattle.mesh_project_files.proofs.Reading.{without_sources}
use Rattle.mesh_project_files.proofs.Gathering.{read_without_paths}
use Rattle.mesh_project_files.proofs.read.read_files.Goals as goal

pub returns-in_err-sources-clause-says : goal.returns-in_err-sources-clause-says
returns-in_err-sources-clause-says g c =
    let dir = c.args.dir.now in
    let fault = c.in_err-sources.field-0.0 in
    asks_err (λ fs r. Gives r (sources_in fs dir)) (λ fs. AreFiles fs dir) _ _ fault c.from_residual.result c.in_err-sources.ensures c.from_residual.ensures.1 (λ fs e. without_sources fs dir fault e)

pub returns-in_err-paths-clause-says : goal.returns-in_err-paths-clause-says
returns-in_err-paths-clause-says g c =
    read_without_paths c.args.dir.now _ _ _ c.in_ok-sources.sources c.in_ok-sources.ensures c.from_residual-in_err-paths.result c.in_err-paths.field-0.0 c.in_err-paths.ensures c.from_residual-in_err-paths.ensures.1
