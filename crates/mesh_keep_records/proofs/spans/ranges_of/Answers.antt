use Rattle.std.proofs.Common.{◌∙◌, arith}
use Rattle.std.specs.Prelude.{◌↔◌, ℤ}
use Rattle.std.proofs.lemmas.List.{take_all}
use Rattle.mesh_time.specs.Ranges.{Has}
use Rattle.mesh_keep_records.proofs.Refused.{unlike}
use Rattle.mesh_keep_records.proofs.Seconds.{seconds_more}
use Rattle.mesh_keep_records.proofs.spans.ranges_of.Goals as goal

pub loop-span-preserved : goal.loop-span-preserved
loop-span-preserved c =
    seconds_more _ _ c.args.spans.now c.loop-span.span-index _ (omega arith) c.loop-span.invariant c.in_ok-add_span.ensures

pub returns-else-are_same-clause-only : goal.returns-else-are_same-clause-only
returns-else-are_same-clause-only c = λ apart.
    let all = take_all c.loop-span.span-index c.args.spans.now (omega arith) in
    let seconds : (t : ℤ) → Has c.loop-span.made t ↔ Has c.args.spans.now t = rw all at c.loop-span.invariant in
    let same = c.same_seconds_same_ranges.ensures c.loop-span.made c.args.spans.now c.spans.ensures.rule apart seconds in
    absurd (unlike _ _ _ c.are_same.ensures c.if-are_same.false (c.as_slice.ensures ∙ c.spans.ensures.spans ∙ same))
