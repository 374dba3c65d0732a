use Rattle.mesh_project_files.proofs.files.read_sources.Goals as goal

pub returns : goal.returns
returns g c = rw c.in_ok-file.ensures at c.sources_at.ensures
