use Rattle.std.proofs.Common.{◌≡◌, sym, ◌∙◌}
use Rattle.mesh_law_query.proofs.ReadColumns.{text_is}
use Rattle.mesh_lineage.proofs.readings.same_place.Goals as goal

pub returns-then-a-b : goal.returns-then-a-b
returns-then-a-b c = λ t.
    let a = c.args.a.now in
    let b = c.args.b.now in
    let items : a.0 ≡ b.0 = c.if-a-b.true in
    let names : a.1.now ≡ b.1.now = sym c.as_slice.ensures ∙ text_is c.as_slice.result.now c.as_slice-then-a-b.result.now (sym c.same_text.ensures ∙ t) ∙ c.as_slice-then-a-b.ensures in
    λ i. (items i, names i)
