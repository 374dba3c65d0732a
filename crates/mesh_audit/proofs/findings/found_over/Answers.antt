use Rattle.std.proofs.Common.{◌≡◌, List, ◌++◌, Some, take, map, sym, ap, ◌∙◌, arith}
use Rattle.std.specs.Option.{option_map}
use Rattle.mesh_base.specs.declared.jobs.Input.{Input}
use Rattle.mesh_spec_query.specs.Sel.{Sel}
use Rattle.mesh_spec_model.specs.Scratch.{no_bounds}
use Rattle.mesh_layer.proofs.Finding.{and_then, part_fails, told_later, wants}
use Rattle.mesh_layer.proofs.Heights.{first_at}
use Rattle.mesh_audit.specs.Audited.{finding, found_by, lost_by}
use Rattle.mesh_audit.specs.Pools.{plain}
use Rattle.mesh_audit.proofs.Gathering.{audit_found, found_over, gathered_step, none_lost_of}
use Rattle.mesh_audit.proofs.findings.found_over.Goals as goal

pub returns-in_err-refill : goal.returns-in_err-refill
returns-in_err-refill g c =
    let so_far = c.loop-a.invariant in
    let i = c.loop-a.a-index in
    let all = map plain c.args.all.now in
    part_fails _ _ _ _ _ _ _ _ _ c.in_err-refill.field-0.0 c.from_residual.result so_far.untouched c.in_err-refill.ensures c.from_residual.ensures.1
    (λ w told plainly.
    let here = so_far.told w told plainly in (
      (plainly, here.0),
      λ o is. first_at (lost_by w all) c.args.audits.now i c.a-item.result o (omega arith) c.a-item.is
          (none_lost_of (found_by w all) (lost_by w all) (audit_found w all) (take i c.args.audits.now) c.loop-a.findings here.1) is,
    ))

pub loop-a-preserved : goal.loop-a-preserved
loop-a-preserved g c =
    let so_far = c.loop-a.invariant in
    let there = c.in_ok-refill.ensures in
    let all = map plain c.args.all.now in
    record {
      untouched = and_then _ _ _ so_far.untouched there.untouched;
      told = λ w told plainly.
          let here = so_far.told w told plainly in
          let found = there.ok w (told_later _ _ w so_far.untouched told) (plainly, here.0) in (
            found.0,
            gathered_step (found_by w all) c.args.audits.now c.loop-a.a-index c.a-item.result c.loop-a.findings _ (omega arith) c.a-item.is here.1
                (found_over w all c.a-item.result _ found.1)
                ∙ ap Some (ap (λ (ts : List Input). c.loop-a.findings ++ finding c.a-item.result (Sel c.a-item.result.query ts no_bounds)) (sym c.as_slice.ensures) ∙ sym c.in_ok-add_finding.ensures),
          );
    }
