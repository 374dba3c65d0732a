-- Parts of tables as the keys of a set.
use Rattle.std.specs.Prelude.{ℤ}
use Rattle.std.specs.Ordering.{int_cmp, ordering_then}
use Rattle.std.specs.declared.cmp.Ordering.{Ordering}
use Rattle.mesh_base_values.specs.Names.{name_cmp}
use Rattle.mesh_base_values.specs.declared.values.Name.{Name}

-- by their start, end and object
abbrev pub part_cmp : ℤ × ℤ × Name → ℤ × ℤ × Name → Ordering
part_cmp a b = ordering_then (ordering_then (int_cmp a.0 b.0) (int_cmp a.1 b.1)) (name_cmp a.2 b.2)
