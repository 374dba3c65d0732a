use Rattle.std.proofs.Common.{arith, sym, ◌∙◌}
use Rattle.mesh_list.proofs.Standing.{where_first, where_none}
use Rattle.mesh_list.proofs.places.find_in.Goals as goal

pub offset_bounds-items-at : goal.offset_bounds-items-at
offset_bounds-items-at g c =
    let first = where_first g.T.Keyed.order g.T.Keyed.key c.args.key.now c.args.items.now c.in-Some.at (sym c.in-Some.is ∙ c.key_at.ensures) in
    omega (first.inside, arith)

pub bounds-items-at : goal.bounds-items-at
bounds-items-at g c = (where_first g.T.Keyed.order g.T.Keyed.key c.args.key.now c.args.items.now c.in-Some.at (sym c.in-Some.is ∙ c.key_at.ensures)).inside

pub returns-in-Some : goal.returns-in-Some
returns-in-Some g c = sym ((where_first g.T.Keyed.order g.T.Keyed.key c.args.key.now c.args.items.now c.in-Some.at (sym c.in-Some.is ∙ c.key_at.ensures)).is_found c.index-items-at.result c.index-items-at.is)

pub returns-in-None : goal.returns-in-None
returns-in-None g c = sym (where_none g.T.Keyed.order g.T.Keyed.key c.args.key.now c.args.items.now (sym c.in-None.is ∙ c.key_at.ensures)).not_found
