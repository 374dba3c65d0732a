use Rattle.std.proofs.Common.{arith, sym, ap, ◌∙◌, refl, set, Some}
use Rattle.mesh_list.specs.Keyed.{first_at}
use Rattle.mesh_list.proofs.Standing.{where_first, where_none}
use Rattle.mesh_list.proofs.places.exchange_in.Goals as goal

pub index_mut-requires : goal.index_mut-requires
index_mut-requires g c =
    let first = where_first g.T.Keyed.order g.T.Keyed.key (g.T.Keyed.key c.args.item) c.args.items.now.items c.in-Some.at (sym c.in-Some.is ∙ c.like_at.ensures ∙ ap (first_at g.T.Keyed.order g.T.Keyed.key (g.T.Keyed.key c.args.item)) c.as_slice.ensures.value) in
    omega (first.inside, arith)

pub returns-in-Some-clause-value : goal.returns-in-Some-clause-value
returns-in-Some-clause-value g c = ap Some c.replace.ensures.value ∙ sym ((where_first g.T.Keyed.order g.T.Keyed.key (g.T.Keyed.key c.args.item) c.args.items.now.items c.in-Some.at (sym c.in-Some.is ∙ c.like_at.ensures ∙ ap (first_at g.T.Keyed.order g.T.Keyed.key (g.T.Keyed.key c.args.item)) c.as_slice.ensures.value)).is_found c.index_mut.result.now c.index_mut.ensures.value)

pub returns-in-Some-clause-rest : goal.returns-in-Some-clause-rest
returns-in-Some-clause-rest g c = ap (set c.args.items.now.items c.in-Some.at) c.replace.ensures.after ∙ sym ((where_first g.T.Keyed.order g.T.Keyed.key (g.T.Keyed.key c.args.item) c.args.items.now.items c.in-Some.at (sym c.in-Some.is ∙ c.like_at.ensures ∙ ap (first_at g.T.Keyed.order g.T.Keyed.key (g.T.Keyed.key c.args.item)) c.as_slice.ensures.value)).put c.args.item refl)

pub returns-in-None-clause-value : goal.returns-in-None-clause-value
returns-in-None-clause-value g c = sym (where_none g.T.Keyed.order g.T.Keyed.key (g.T.Keyed.key c.args.item) c.args.items.now.items (sym c.in-None.is ∙ c.like_at.ensures ∙ ap (first_at g.T.Keyed.order g.T.Keyed.key (g.T.Keyed.key c.args.item)) c.as_slice.ensures.value)).not_found

pub returns-in-None-clause-rest : goal.returns-in-None-clause-rest
returns-in-None-clause-rest g c = sym ((where_none g.T.Keyed.order g.T.Keyed.key (g.T.Keyed.key c.args.item) c.args.items.now.items (sym c.in-None.is ∙ c.like_at.ensures ∙ ap (first_at g.T.Keyed.order g.T.Keyed.key (g.T.Keyed.key c.args.item)) c.as_slice.ensures.value)).stays c.args.item refl)
