use Rattle.mesh_law_query.proofs.ReadBags.{rows_read_bag, over_read_bag, piece_read_bag}
use Rattle.mesh_law_query.proofs.laws.rows_respect_bags_of_read_columns.Goals as goal

pub returns : goal.returns
returns c = record { definition = rows_read_bag; rows = over_read_bag; pieces = piece_read_bag }
