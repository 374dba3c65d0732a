use Rattle.std.proofs.Common.{arith, sym, ap, ◌∙◌}
use Rattle.std.specs.Ordering.{is_eq}
use Rattle.mesh_list.specs.Keyed.{place_of}
use Rattle.mesh_list.proofs.Standing.{put_over, put_between, put_last}
use Rattle.mesh_list.proofs.places.place_in.Goals as goal

pub returns-then-at-len-clause-ok : goal.returns-then-at-len-clause-ok
returns-then-at-len-clause-ok g c = c.in_ok-push.ensures.items ∙ put_last g.T.Keyed.order g.T.Keyed.key c.args.item c.args.items.now.items c.belongs_at-at.result (c.belongs_at-at.ensures.place ∙ ap (place_of g.T.Keyed.order g.T.Keyed.key (g.T.Keyed.key c.args.item)) c.as_slice.ensures.value) (omega arith)

pub returns-then-is_eq-clause-ok : goal.returns-then-is_eq-clause-ok
returns-then-is_eq-clause-ok g c = put_over g.T.Keyed.order g.T.Keyed.key c.args.item c.args.items.now.items c.belongs_at-at.result (c.belongs_at-at.ensures.place ∙ ap (place_of g.T.Keyed.order g.T.Keyed.key (g.T.Keyed.key c.args.item)) c.as_slice.ensures.value) c.index.result.now (omega arith) c.index.ensures (ap is_eq (sym c.against.ensures) ∙ sym c.is_eq.ensures ∙ c.if-is_eq.true)

pub returns-clause-ok : goal.returns-clause-ok
returns-clause-ok g c = c.in_ok-insert.ensures.items ∙ put_between g.T.Keyed.order g.T.Keyed.key c.args.item c.args.items.now.items c.belongs_at-at.result (c.belongs_at-at.ensures.place ∙ ap (place_of g.T.Keyed.order g.T.Keyed.key (g.T.Keyed.key c.args.item)) c.as_slice.ensures.value) c.index.result.now (omega arith) c.index.ensures (ap is_eq (sym c.against.ensures) ∙ sym c.is_eq.ensures ∙ c.if-is_eq.false)
