use Rattle.mesh_law_query.proofs.Reading.{rows_read, over_read, piece_read}
use Rattle.mesh_law_query.proofs.Cutting.{rows_cut}
use Rattle.mesh_law_query.proofs.laws.rows_hang_on_read_columns.Goals as goal

pub returns : goal.returns
returns c = record { agree = rows_read; cut = rows_cut; rows = over_read; pieces = piece_read }
