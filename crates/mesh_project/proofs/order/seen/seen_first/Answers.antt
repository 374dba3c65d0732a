use Rattle.std.proofs.Common.{false, arith}
use Rattle.std.proofs.lemmas.List.{get_or-replicate, length-replicate}
use Rattle.mesh_project.proofs.order.Walking.{marks_more, marks_none}
use Rattle.mesh_project.proofs.order.seen.seen_first.Goals as goal

pub returns-clause-marks : goal.returns-clause-marks
returns-clause-marks c =
    let count = c.args.count in
    let at = c.args.at in
    rw (c.in_ok-push.ensures.items, c.new-list.ensures.items, c.in_ok-marks.ensures)
    (marks_more _ _ at (marks_none count) (let r = c.requires in omega (arith, length-replicate count false)) (get_or-replicate count at false false c.requires))
