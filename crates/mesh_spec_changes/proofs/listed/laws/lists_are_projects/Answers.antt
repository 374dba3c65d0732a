use Rattle.mesh_spec_changes.proofs.listed.Entries.{in_order, just_the_named, one_for_each}
use Rattle.mesh_spec_changes.proofs.listed.Projects.{project_is_proper}
use Rattle.mesh_spec_changes.specs.listed.Listed.{named}
use Rattle.mesh_spec_changes.proofs.listed.laws.lists_are_projects.Goals as goal

pub returns : goal.returns
returns c = record {
  entries = just_the_named;
  order = λ b list well fit. in_order (named b.snapshots list);
  each = λ b list well fit. one_for_each b.snapshots list fit;
  proper = project_is_proper;
}
