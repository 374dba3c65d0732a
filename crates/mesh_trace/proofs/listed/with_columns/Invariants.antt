use Rattle.std.proofs.Common.{◌≡◌, take}
use Rattle.std.specs.BTreeSet.{contains}
use Rattle.mesh_base_values.specs.Names.{name_cmp}
use Rattle.mesh_base_values.specs.declared.values.Name.{Name}
use Rattle.mesh_trace.specs.Traces.{has_column_of}
use Rattle.mesh_trace.proofs.listed.with_columns.Given as goal

abbrev pub invariant-loop-t : goal.invariant-loop-t
invariant-loop-t l = (name : Name) → contains name_cmp l.set name ≡ has_column_of (take l.t-index l.all) name
