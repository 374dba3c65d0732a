use Rattle.std.proofs.Common.{rules, w64, FitsSigned, ap, sym, ◌∙◌, ◌&&◌}
use Rattle.std.specs.BTreeSet.{contains}
use Rattle.std.specs.Ordering.{is_eq}
use Rattle.std.proofs.lemmas.Int.{to_z-of_z}
use Rattle.mesh_spec_changes.specs.due.Parts.{same_name, same_part, same_second, unit_of}
use Rattle.mesh_plan_due.specs.Sets.{part_cmp}
use Rattle.mesh_plan_due.proofs.Keys.{added, key_is}
use Rattle.mesh_plan_due.proofs.gone.add_unit.Goals as goal

pub returns-in_ok-insert-in-Range : goal.returns-in_ok-insert-in-Range
returns-in_ok-insert-in-Range c object u =
    let start_fits : FitsSigned w64 c.in-Range.start = search rules in
    let end_fits : FitsSigned w64 c.in-Range.end = search rules in
    let up = simp to_z-of_z at c.in_ok-insert-in-Range.ensures.updates.0 (u.start, u.end, object) in
    up
    ∙ added (is_eq (part_cmp (c.in-Range.start, c.in-Range.end, c.in_ok-object-in-Range.object) (u.start, u.end, object))) (contains part_cmp c.args.set.now (u.start, u.end, object)) (same_part (unit_of object u) c.args.part.now)
    (key_is c.in-Range.start c.in-Range.end c.in_ok-object-in-Range.object u.start u.end object
    ∙ ap (λ o. same_name object o && (same_second u.start c.in-Range.start && same_second u.end c.in-Range.end)) c.in_ok-object-in-Range.ensures
    ∙ ap (same_part (unit_of object u)) (sym c.in-Range.is))
