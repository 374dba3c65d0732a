use Rattle.std.proofs.Common.{◌+◌, drop, map, ap, ◌∙◌}
use Rattle.std.proofs.lemmas.List.{map-append}
use Rattle.mesh_exec_works.specs.Works.{part_of, parts_from}
use Rattle.mesh_exec_works.proofs.Pushed.{next_pushed, parts_next}
use Rattle.mesh_exec_works.proofs.works.works_of.Goals as goal

pub loop-i-preserved : goal.loop-i-preserved
loop-i-preserved c =
    let ns = c.args.nodes.now in
    let es = c.args.entries.now in
    let i = c.loop-i.i in
    let rest = c.loop-i.rest.now in
    let back = c.split_at.result.1.now in
    let here = c.in-Some.ensures.lookup in
    next_pushed (map part_of c.loop-i.works) (map part_of c.push.new.self) _ (parts_from (i + 1) (drop (i + 1) ns) (drop (i + 1) es) back) (parts_from i (drop i ns) (drop i es) rest) _
    (ap (map part_of) c.in_ok-push.ensures.ok ∙ map-append part_of c.loop-i.works _)
    (parts_next ns es i c.index-nodes-i.result c.in-Some.entry.now c.loop-i-test.true c.index-nodes-i.is here.3.0 here.1 rest c.split_at.result.0.now back (c.split_at.ensures.front ∙ c.count_leading.ensures.front) (c.split_at.ensures.back ∙ c.count_leading.ensures.rest)) c.loop-i.invariant
