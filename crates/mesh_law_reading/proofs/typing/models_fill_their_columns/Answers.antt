use Rattle.mesh_law_reading.proofs.TypingModels.{model_fills}
use Rattle.mesh_law_reading.proofs.typing.models_fill_their_columns.Goals as goal

pub returns : goal.returns
returns c = model_fills
