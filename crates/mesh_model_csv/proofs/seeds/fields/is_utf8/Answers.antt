use Rattle.std.proofs.Common.{◌∙◌}
use Rattle.std.specs.Str.{valid_up_to}
use Rattle.mesh_model_csv.proofs.seeds.Utf8.{tested_text}
use Rattle.mesh_model_csv.proofs.seeds.fields.is_utf8.Goals as goal

pub returns : goal.returns
returns c = c.is_ok.ensures.value ∙ tested_text valid_up_to c.from_utf8.result c.args.bytes.now c.from_utf8.ensures.cases
