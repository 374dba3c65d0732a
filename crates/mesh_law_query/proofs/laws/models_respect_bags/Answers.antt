use Rattle.mesh_law_query.proofs.Models.{model_bag, unit_bag, step_bag, piece_bag, inputs_bag}
use Rattle.mesh_law_query.proofs.laws.models_respect_bags.Goals as goal

pub returns : goal.returns
returns c = record { scratch = model_bag; units = unit_bag; inputs = inputs_bag; rows = step_bag; pieces = piece_bag }
