use Rattle.mesh_category.proofs.category.Places.{ascending_from_sort}
use Rattle.mesh_category.proofs.category.named.in_order.Goals as goal

pub returns-in-Ok-clause-ascending : goal.returns-in-Ok-clause-ascending
returns-in-Ok-clause-ascending c = rw c.from_vec.ensures (ascending_from_sort c.sort.new.self.items c.in-Ok.ensures.sorted)
