use Rattle.mesh_law_reading.proofs.TypingQueries.{rows_fit}
use Rattle.mesh_law_reading.proofs.typing.resolved_rows_fit_columns.Goals as goal

pub returns : goal.returns
returns c = rows_fit
