use Rattle.mesh_base_values.proofs.Total.{ascending_from_sort}
use Rattle.mesh_base_values.proofs.sorts.sort_rows.Goals as goal

pub returns-in-Ok-clause-ascending : goal.returns-in-Ok-clause-ascending
returns-in-Ok-clause-ascending c = rw c.from_vec.ensures (ascending_from_sort c.sort.new.self.items c.in-Ok.ensures.sorted)
