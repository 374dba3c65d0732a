use Rattle.std.proofs.Common.{false, sym, ◌∙◌}
use Rattle.std.proofs.lemmas.List.{get_or_default}
use Rattle.mesh_project.proofs.order.Walking.{marks_more}
use Rattle.mesh_project.proofs.order.seen.mark.Goals as goal

pub returns-in_ok-push-clause-marks : goal.returns-in_ok-push-clause-marks
returns-in_ok-push-clause-marks c =
    let seen = c.args.seen.now in
    rw (c.in_ok-push.ensures.items)
    (marks_more seen.marks.items seen.list.items c.args.at c.requires.marks c.requires.within
    (get_or_default seen.marks.items c.args.at false c.index.result.now c.requires.within ∙ sym c.index.ensures ∙ c.if-not-index.true))
