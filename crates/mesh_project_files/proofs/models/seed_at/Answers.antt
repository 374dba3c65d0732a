use Rattle.mesh_project_files.proofs.Kept.{seed_there}
use Rattle.mesh_project_files.proofs.models.seed_at.Goals as goal

pub returns-clause-seeded : goal.returns-clause-seeded
returns-clause-seeded g c = seed_there c.args.text.now c.args.path.now c.in_ok-bytes.bytes c.seed_if_there.result c.seed_if_there.ensures.gives
