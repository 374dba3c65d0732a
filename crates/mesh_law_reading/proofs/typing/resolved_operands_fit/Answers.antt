use Rattle.mesh_law_reading.proofs.TypingQueries.{operands_are_met}
use Rattle.mesh_law_reading.proofs.typing.resolved_operands_fit.Goals as goal

pub returns : goal.returns
returns c = operands_are_met
