use Rattle.std.proofs.Common.{◌≡◌, [], rules, arith, ◌∙◌}
use Rattle.std.specs.List.{filter}
use Rattle.std.proofs.lemmas.Grind.{common_steps}
use Rattle.mesh_spec_changes.specs.Kept.{tables}
use Rattle.mesh_janitor.specs.janitor.Walk.{objects_after}
use Rattle.mesh_janitor.specs.promote.Promotion.{is_absent}
use Rattle.mesh_janitor.proofs.janitor.Used.{gone_are}
use Rattle.mesh_janitor.proofs.janitor.tables.gone_tables.Goals as goal

pub returns : goal.returns
returns c =
    let b = c.args.b.now in
    let made : c.in_ok-gone.gone ≡ filter (is_absent (objects_after c.args.t c.args.wanted.now b.snapshots [])) (tables b) = first_of (search rules, grind (arith, common_steps)) in
    made ∙ gone_are b c.args.t c.args.wanted.now c.requires
