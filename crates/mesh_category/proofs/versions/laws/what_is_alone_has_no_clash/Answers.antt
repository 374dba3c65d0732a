use Rattle.mesh_category.proofs.versions.Without.{none_clashes}
use Rattle.mesh_category.proofs.versions.laws.what_is_alone_has_no_clash.Goals as goal

pub returns : goal.returns
returns c = none_clashes
