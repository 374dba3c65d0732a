use Rattle.mesh_project_files.proofs.Kept.{text_kept}
use Rattle.mesh_project_files.proofs.models.text_file.Goals as goal

pub returns-in-Ok-clause-kept : goal.returns-in-Ok-clause-kept
returns-in-Ok-clause-kept g c =
    text_kept c.args.file.now c.args.bytes.now c.read_model.result c.in-Ok.text c.with_seed.result (rw c.as_slice.ensures at c.read_model.ensures) c.in-Ok.ensures.gives c.with_seed.ensures.kept
