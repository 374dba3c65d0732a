use Rattle.std.proofs.Common.{◌++◌, ◌∷◌, [], length, get_or, ap, ◌∙◌, arith}
use Rattle.mesh_keep_records.proofs.Each.{put_more}
use Rattle.mesh_keep_records.proofs.lists.SeqListed.put.Goals as goal

pub loop-value-preserved : goal.loop-value-preserved
loop-value-preserved g c =
    let value = c.value-item.result in
    let i = c.loop-value.value-index in
    let items = c.as_slice-value-items.ensures in
    c.in_ok-add.ensures
    ∙ (λ k. c.loop-value.invariant k ++ g.T.Part.text value ∷ [])
    ∙ put_more g.T.Part.text c.args.out.now c.args.self.now i value (omega (arith, ap length items)) (c.value-item.is ∙ ap (λ l. get_or l i value) items)
