use Rattle.std.proofs.Common.{length, get_or, ap, ◌∙◌, arith}
use Rattle.mesh_keep_records.proofs.Each.{all_more}
use Rattle.mesh_keep_records.proofs.lists.SeqPart.rule.Goals as goal

pub loop-value-preserved : goal.loop-value-preserved
loop-value-preserved g c =
    let value = c.value-item.result in
    let i = c.loop-value.value-index in
    let items = c.as_slice-value-items.ensures in
    all_more g.T.Part.fits c.args.self.now i value (omega (arith, ap length items)) (c.value-item.is ∙ ap (λ l. get_or l i value) items) c.loop-value.invariant c.rule.ensures
