use Rattle.std.proofs.Common.{◌≡◌, map, rules, arith, ◌∙◌}
use Rattle.std.proofs.lemmas.Grind.{common_steps}
use Rattle.mesh_house_book.specs.Changes.{version_object}
use Rattle.mesh_spec_changes.specs.Changes.{names_by_order}
use Rattle.mesh_janitor.specs.janitor.Walk.{snapshot_object, with_names}
use Rattle.mesh_janitor.proofs.janitor.Used.{in_order}
use Rattle.mesh_janitor.proofs.janitor.tables.tables.Goals as goal

pub returns : goal.returns
returns c =
    let b = c.args.b.now in
    let made : c.add_objects.new.names ≡ with_names (map snapshot_object b.snapshots) (names_by_order (map version_object b.versions)) = first_of (search rules, grind (arith, common_steps)) in
    made ∙ in_order (map snapshot_object b.snapshots) (map version_object b.versions)
