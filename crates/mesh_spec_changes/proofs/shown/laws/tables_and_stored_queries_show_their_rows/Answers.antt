use Rattle.mesh_spec_changes.proofs.shown.Behind.{behind_table, behind_stored}
use Rattle.mesh_spec_changes.proofs.shown.laws.tables_and_stored_queries_show_their_rows.Goals as goal

pub returns : goal.returns
returns c = record { table = behind_table; stored = behind_stored }
