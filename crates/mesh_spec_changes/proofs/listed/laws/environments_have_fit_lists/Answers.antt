use Rattle.mesh_spec_changes.proofs.listed.Entries.{env_lists_fit}
use Rattle.mesh_spec_changes.proofs.listed.laws.environments_have_fit_lists.Goals as goal

pub returns : goal.returns
returns c = env_lists_fit
