use Rattle.std.proofs.Common.{◌∙◌, ◌<◌, length, [], ap, sym, arith}
use Rattle.std.specs.Prelude.{slice_index_or}
use Rattle.std.proofs.lemmas.List.{get_or_default}
use Rattle.mesh_project.proofs.order.Walking.{links_inside, seen_few, seen_more}
use Rattle.mesh_project.proofs.order.seen.seen_from.Goals as goal

pub mark_all-requires-clause-within : goal.mark_all-requires-clause-within
mark_all-requires-clause-within c = links_inside c.args.links.now _ _ _ c.requires.within c.loop-next.invariant.as_many c.links_at.ensures

pub loop-next-smaller : goal.loop-next-smaller
loop-next-smaller c =
    let few = seen_few c.loop-next.seen.marks.items c.loop-next.seen.list.items c.loop-next.invariant.marks in
    let many = c.loop-next.invariant.as_many in
    let test = c.loop-next-test.true in
    omega arith

pub loop-next-preserved : goal.loop-next-preserved
loop-next-preserved c =
    let links = c.args.links.now in
    let list = c.loop-next.seen.list.items in
    let next = c.loop-next.next in
    let within : next < length list = (let t = c.loop-next-test.true in omega arith) in
    record {
      marks = c.in_ok-mark_all.ensures.marks;
      as_many = c.in_ok-mark_all.ensures.as_many ∙ c.loop-next.invariant.as_many;
      seen = seen_more links c.args.at list _ next c.loop-next.invariant.seen within
          (rw (ap (λ x. slice_index_or links x []) (get_or_default list next 0 c.index-place.result.now within ∙ sym c.index-place.ensures) ∙ sym c.links_at.ensures) c.in_ok-mark_all.ensures.grown);
    }
