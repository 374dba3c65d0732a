use Rattle.mesh_spec_changes.proofs.listed.Projects.{closures_are, closures_by_reference}
use Rattle.mesh_spec_changes.proofs.listed.laws.projects_of_lists_have_the_closures_of_the_book.Goals as goal

pub returns : goal.returns
returns c = record { snapshots = closures_are; references = closures_by_reference }
