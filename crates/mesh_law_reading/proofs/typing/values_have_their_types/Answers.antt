use Rattle.mesh_law_reading.proofs.TypingMeets.{typed_holds}
use Rattle.mesh_law_reading.proofs.typing.values_have_their_types.Goals as goal

pub returns-clause-values : goal.returns-clause-values
returns-clause-values c columns sight h e t is = (typed_holds columns sight h e t is).0

pub returns-clause-operands : goal.returns-clause-operands
returns-clause-operands c columns sight h e t is = (typed_holds columns sight h e t is).1
