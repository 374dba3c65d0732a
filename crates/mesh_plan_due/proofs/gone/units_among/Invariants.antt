use Rattle.std.proofs.Common.{◌≡◌, take}
use Rattle.std.specs.BTreeSet.{contains}
use Rattle.mesh_base_values.specs.declared.times.Bounds.{Bounds}
use Rattle.mesh_base_values.specs.declared.values.Name.{Name}
use Rattle.mesh_spec_changes.specs.due.Parts.{is_among, unit_of}
use Rattle.mesh_plan_due.specs.Sets.{part_cmp}
use Rattle.mesh_plan_due.proofs.gone.units_among.Given as goal

abbrev pub invariant-loop-part : goal.invariant-loop-part
invariant-loop-part l = (object : Name) (u : Bounds) → contains part_cmp l.set (u.start, u.end, object) ≡ is_among (take l.part-index l.parts) (unit_of object u)
