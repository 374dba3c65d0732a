use Rattle.std.proofs.Common.{◌∙◌, sym}
use Rattle.mesh_project.proofs.nodes.Places.{has_place, gets_place}
use Rattle.mesh_project.proofs.nodes.earlier.add_place.Goals as goal

pub returns-then-contains_key-clause-ok : goal.returns-then-contains_key-clause-ok
returns-then-contains_key-clause-ok c = has_place c.args.places.now c.args.name c.args.place (sym c.contains_key.ensures ∙ c.if-contains_key.true)

pub returns-clause-ok : goal.returns-clause-ok
returns-clause-ok c = gets_place c.args.places.now c.insert.new.self c.args.name c.args.place (sym c.contains_key.ensures ∙ c.if-contains_key.false) c.in-Ok.ensures.updates
