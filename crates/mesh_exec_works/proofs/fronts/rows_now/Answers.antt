use Rattle.std.proofs.Common.{◌≡◌, true, sym, ap, ◌∙◌}
use Rattle.mesh_base_values.specs.Names.{has_two_underscores}
use Rattle.mesh_house.specs.World.{rows_of}
use Rattle.mesh_layer.proofs.Reading.{body_there}
use Rattle.mesh_exec_works.proofs.More.{reads_made}
use Rattle.mesh_exec_works.proofs.fronts.rows_now.Goals as goal

pub returns-in_ok-body : goal.returns-in_ok-body
returns-in_ok-body g c =
    let physical : has_two_underscores c.args.name.now.schema ≡ true = sym (c.has_two_underscores.ensures ∙ ap has_two_underscores c.as_slice.ensures) ∙ c.if-has_two_underscores.true in
    reads_made _ _ _ _ c.in_ok-body.body c.rows_of.result c.in_ok-body.ensures (λ w is. c.rows_of.ensures ∙ ap rows_of (is ∙ body_there w c.args.name.now physical))
