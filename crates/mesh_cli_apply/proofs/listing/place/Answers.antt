use Rattle.std.proofs.Common.{ap, ◌∙◌}
use Rattle.mesh_list.specs.Keyed.{placed}
use Rattle.mesh_base_values.specs.declared.values.Name.{Name}
use Rattle.mesh_base_values.specs.Names.{name_cmp}
use Rattle.mesh_cli_apply.specs.Listing.{as_targets, target_name}
use Rattle.mesh_cli_apply.proofs.ByName.{put_in}
use Rattle.mesh_cli_apply.proofs.listing.place.Goals as goal

pub returns : goal.returns
returns c =
    let n = c.args.node.now in
    let old = c.args.models.now.entries in
    ap as_targets c.in_ok-insert.ensures.entries ∙ put_in c.in_ok-name.name (n.fingerprint, c.in_ok-name.object) old
    ∙ ap (λ (q : Name × Name). placed name_cmp target_name (record { name = q.0; fingerprint = n.fingerprint; object = q.1 }) (as_targets old)) c.in_ok-name.ensures
