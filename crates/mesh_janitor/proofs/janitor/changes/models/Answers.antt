use Rattle.std.proofs.Common.{◌≡◌, map, rules, arith, ◌∙◌, sym, ap}
use Rattle.std.proofs.lemmas.Grind.{common_steps}
use Rattle.std.proofs.lemmas.List.{map-append}
use Rattle.mesh_base.specs.Keys.{ref_name}
use Rattle.mesh_spec_changes.specs.Changes.{names_by_order}
use Rattle.mesh_janitor.specs.janitor.Walk.{with_names}
use Rattle.mesh_janitor.proofs.janitor.Used.{in_order}
use Rattle.mesh_janitor.proofs.janitor.changes.models.Goals as goal

pub returns : goal.returns
returns c =
    let e = c.args.env.now in
    let made : c.add_names.new.names ≡ with_names (map ref_name e.list) (names_by_order (map ref_name e.previous)) = first_of (search rules, grind (arith, common_steps)) in
    made ∙ in_order (map ref_name e.list) (map ref_name e.previous) ∙ sym (ap names_by_order (map-append ref_name e.list e.previous))
