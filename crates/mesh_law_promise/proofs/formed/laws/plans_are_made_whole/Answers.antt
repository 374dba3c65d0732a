use Rattle.mesh_law_promise.proofs.formed.Commands.{applies_whole, runs_whole}
use Rattle.mesh_law_promise.proofs.formed.laws.plans_are_made_whole.Goals as goal

pub returns-clause-applies : goal.returns-clause-applies
returns-clause-applies c = applies_whole

pub returns-clause-runs : goal.returns-clause-runs
returns-clause-runs c = runs_whole
