use Rattle.std.proofs.Common.{◌<◌, length, ◌∙◌, arith}
use Rattle.mesh_plan_due.proofs.Bits.{any_default}
use Rattle.mesh_plan_due.proofs.Numbered.{all_counted}
use Rattle.mesh_plan_due.proofs.marks.marks_at.Goals as goal

pub add_marks-requires-clause-word : goal.add_marks-requires-clause-word
add_marks-requires-clause-word c =
    let inside : c.loop-at.at < length c.in_ok-by_number.by_number.items = omega (arith, c.loop-at-test.true, c.in_ok-by_number.ensures.length) in
    all_counted c.args.spots.now c.args.row.now c.args.place c.args.numbers.now c.in_ok-by_number.by_number.items c.requires c.in_ok-by_number.ensures.found c.loop-at.at c.index.result.now
    (c.index.ensures ∙ any_default c.in_ok-by_number.by_number.items c.loop-at.at c.index.result.now 0 inside)
