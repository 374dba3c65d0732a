use Rattle.std.proofs.Common.{ap, if◌then◌else◌, []}
use Rattle.mesh_spec_changes.specs.Commands.{asked}
use Rattle.mesh_spec_changes.proofs.laws.what_changes_nothing.Goals as goal

pub returns : goal.returns
returns c = λ clock command w no. ap (λ b. if b then asked clock command w else []) no
