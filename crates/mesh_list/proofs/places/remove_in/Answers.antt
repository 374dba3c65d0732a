use Rattle.std.proofs.Common.{arith, sym, ap, ◌∙◌}
use Rattle.mesh_list.specs.Keyed.{first_at}
use Rattle.mesh_list.proofs.Standing.{where_first, where_none}
use Rattle.mesh_list.proofs.places.remove_in.Goals as goal

pub remove-requires : goal.remove-requires
remove-requires g c =
    let first = where_first g.T.Keyed.order g.T.Keyed.key c.args.key.now c.args.items.now.items c.in-Some.at (sym c.in-Some.is ∙ c.key_at.ensures ∙ ap (first_at g.T.Keyed.order g.T.Keyed.key c.args.key.now) c.as_slice.ensures.value) in
    omega (first.inside, arith)

pub returns-in-Some-clause-value : goal.returns-in-Some-clause-value
returns-in-Some-clause-value g c = sym ((where_first g.T.Keyed.order g.T.Keyed.key c.args.key.now c.args.items.now.items c.in-Some.at (sym c.in-Some.is ∙ c.key_at.ensures ∙ ap (first_at g.T.Keyed.order g.T.Keyed.key c.args.key.now) c.as_slice.ensures.value)).is_found c.remove.result c.remove.ensures.value)

pub returns-in-Some-clause-rest : goal.returns-in-Some-clause-rest
returns-in-Some-clause-rest g c = c.remove.ensures.items ∙ sym (where_first g.T.Keyed.order g.T.Keyed.key c.args.key.now c.args.items.now.items c.in-Some.at (sym c.in-Some.is ∙ c.key_at.ensures ∙ ap (first_at g.T.Keyed.order g.T.Keyed.key c.args.key.now) c.as_slice.ensures.value)).taken

pub returns-in-None-clause-value : goal.returns-in-None-clause-value
returns-in-None-clause-value g c = sym (where_none g.T.Keyed.order g.T.Keyed.key c.args.key.now c.args.items.now.items (sym c.in-None.is ∙ c.key_at.ensures ∙ ap (first_at g.T.Keyed.order g.T.Keyed.key c.args.key.now) c.as_slice.ensures.value)).not_found

pub returns-in-None-clause-rest : goal.returns-in-None-clause-rest
returns-in-None-clause-rest g c = sym (where_none g.T.Keyed.order g.T.Keyed.key c.args.key.now c.args.items.now.items (sym c.in-None.is ∙ c.key_at.ensures ∙ ap (first_at g.T.Keyed.order g.T.Keyed.key c.args.key.now) c.as_slice.ensures.value)).kept
