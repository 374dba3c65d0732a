use Rattle.mesh_resolve.proofs.NameSets.{one_more_name}
use Rattle.mesh_resolve.proofs.sources.all_names.Goals as goal

pub loop-name-preserved : goal.loop-name-preserved
loop-name-preserved c = one_more_name c.loop-name.set c.insert.new.self c.loop-name.yielded c.in-Some.name c.loop-name.invariant c.in_ok-insert.ensures.updates
