use Rattle.std.proofs.Common.{[], sym}
use Rattle.mesh_model_csv.proofs.seeds.Places.{none_there}
use Rattle.mesh_model_csv.proofs.seeds.records.Record.field.Goals as goal

pub returns-in-None : goal.returns-in-None
returns-in-None c = sym (none_there c.args.self.now c.args.at [] (sym c.in-None.ensures))
