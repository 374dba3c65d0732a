use Rattle.mesh_law_query.proofs.ReadColumns.{exactly, once, of_one}
use Rattle.mesh_law_query.proofs.laws.definitions_read_what_they_name.Goals as goal

pub returns : goal.returns
returns c = record { exactly = exactly; once = once; of_one = of_one }
