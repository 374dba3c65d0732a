use Rattle.mesh_law_query.proofs.Has.{Has_from}
use Rattle.mesh_janitor.proofs.janitor.Goes.{gone_exactly, used_stays}
use Rattle.mesh_janitor.proofs.janitor.Reached.{kept_parent}
use Rattle.mesh_janitor.proofs.janitor.laws.what_is_used_stays.Goals as goal

pub returns : goal.returns
returns c = record {
  parents = λ b t well s p r h kept i e. kept_parent b well t s p r (Has_from b.snapshots s h) kept (Has_from s.parents r i) e;
  snapshots = gone_exactly;
  tables = used_stays;
}
