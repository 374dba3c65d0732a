use Rattle.std.proofs.Common.{◌≡◌, ap, ◌∙◌}
use Rattle.mesh_base.specs.rules.Proper.{is_proper}
use Rattle.mesh_spec_changes.specs.listed.Listed.{listed}
use Rattle.mesh_spec_changes.proofs.listed.Projects.{project_is_proper}
use Rattle.mesh_category.proofs.versions.projects.project_of.Goals as goal

pub invariant_of-result : goal.invariant_of-result
invariant_of-result c =
    let nodes : c.in_ok-nodes.nodes ≡ listed c.args.b.now.snapshots c.args.list.now = c.in_ok-nodes.ensures ∙ ap (listed c.args.b.now.snapshots) c.as_slice.ensures in
    ap is_proper nodes ∙ project_is_proper c.args.b.now c.args.list.now c.requires.book c.requires.list
