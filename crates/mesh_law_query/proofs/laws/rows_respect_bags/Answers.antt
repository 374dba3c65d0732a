use Rattle.mesh_law_query.proofs.Bags.{sel_bag}
use Rattle.mesh_law_query.proofs.laws.rows_respect_bags.Goals as goal

-- src/laws.rt:12:1
pub returns : goal.returns
returns c = sel_bag
