use Rattle.mesh_spec_model.proofs.Rows.{seeds, views, fulls, incrementals, pieces, untimed}
use Rattle.mesh_spec_model.proofs.laws.rows_go_by_the_kind.Goals as goal

pub returns : goal.returns
returns c = record { seed = seeds; view = views; full = fulls; incremental = incrementals; piece = pieces; none = untimed }
