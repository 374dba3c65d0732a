use Rattle.std.proofs.Common.{◌≡◌, take}
use Rattle.std.specs.BTreeSet.{contains}
use Rattle.mesh_base_values.specs.Names.{name_cmp}
use Rattle.mesh_base_values.specs.declared.values.Name.{Name}
use Rattle.mesh_base.specs.declared.forgets.Forget.TheVariants.{Marks}
use Rattle.mesh_spec_changes.specs.due.Parts.{is_among}
use Rattle.mesh_plan_due.proofs.gone.tables_among.Given as goal

abbrev pub invariant-loop-part : goal.invariant-loop-part
invariant-loop-part l = (object : Name) → contains name_cmp l.set object ≡ is_among (take l.part-index l.parts) (Marks object)
