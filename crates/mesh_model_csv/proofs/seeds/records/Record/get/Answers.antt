use Rattle.std.proofs.Common.{◌∙◌}
use Rattle.csv.specs.Records.{fields_of}
use Rattle.mesh_model_csv.proofs.seeds.Places.{same_place}
use Rattle.mesh_model_csv.proofs.seeds.records.Record.get.Goals as goal

pub returns : goal.returns
returns c = rw (← c.self.view_is) (c.get.ensures.value ∙ same_place (fields_of c.self.inside.fields) c.args.at)
