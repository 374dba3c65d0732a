use Rattle.std.proofs.Common.{ap, sym, ◌∙◌}
use Rattle.std.specs.BTreeSet.{contains}
use Rattle.std.specs.Ordering.{is_eq}
use Rattle.mesh_base_values.specs.Names.{name_cmp}
use Rattle.mesh_base.specs.declared.forgets.Forget.TheVariants.{Marks}
use Rattle.mesh_spec_changes.specs.due.Parts.{same_name, same_part}
use Rattle.mesh_plan_due.proofs.Keys.{added}
use Rattle.mesh_plan_due.proofs.Rows.{turned}
use Rattle.mesh_plan_due.proofs.gone.add_table.Goals as goal

pub returns-in_ok-insert-in-Marks : goal.returns-in_ok-insert-in-Marks
returns-in_ok-insert-in-Marks c object =
    c.in_ok-insert-in-Marks.ensures.updates.0 object
    ∙ added (is_eq (name_cmp c.in_ok-object-in-Marks.object object)) (contains name_cmp c.args.set.now object) (same_part (Marks object) c.args.part.now)
    (turned c.in_ok-object-in-Marks.object object ∙ ap (same_name object) c.in_ok-object-in-Marks.ensures ∙ ap (same_part (Marks object)) (sym c.in-Marks.is))
