use Rattle.mesh_law_query.proofs.Finding.{queries_find, definitions_find, closures_find}
use Rattle.mesh_law_query.proofs.laws.well_formed_definitions_find_all.Goals as goal

pub returns : goal.returns
returns c = record { query = queries_find; definition = definitions_find; closure = closures_find }
