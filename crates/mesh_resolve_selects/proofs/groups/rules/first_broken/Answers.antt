use Rattle.std.proofs.Common.{arith}
use Rattle.mesh_resolve_selects.proofs.groups.Broken.{none_here, past_breaches, past_marks}
use Rattle.mesh_resolve_selects.proofs.groups.rules.first_broken.Goals.{then-marks-breaches, else-marks-breaches}
use Rattle.mesh_resolve_selects.proofs.groups.rules.first_broken.Goals as goal

pub loop-i-init : goal.loop-i-init
loop-i-init c =
    let most = c.if-marks-breaches.most in
    elim c.if-marks-breaches.branch [
      | then-marks-breaches w ↦ record { in_marks = omega arith; in_breaches = omega arith; found = past_marks most c.args.marks.now c.args.breaches.now (omega arith) }
      | else-marks-breaches w ↦ record { in_marks = omega arith; in_breaches = omega arith; found = past_breaches most c.args.marks.now c.args.breaches.now (omega arith) }
    ]

pub loop-i-preserved : goal.loop-i-preserved
loop-i-preserved c =
    let i = c.loop-i.invariant in
    record { in_marks = omega arith; in_breaches = omega arith; found = none_here c.loop-i.i c.args.marks.now c.args.breaches.now c.loop-i.found c.loop-i-test.true i.in_marks i.in_breaches c.if-breaches-i.false i.found }
