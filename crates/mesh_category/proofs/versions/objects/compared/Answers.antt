use Rattle.std.proofs.Common.{sym, ap, ◌∙◌}
use Rattle.mesh_base_values.specs.declared.values.Name.{Name}
use Rattle.mesh_house_book.specs.WellFormed.{snapshot_at}
use Rattle.mesh_category.proofs.versions.Steps.{compared_is}
use Rattle.mesh_category.proofs.versions.objects.compared.Goals as goal

pub returns-in_ok-name-in-Some : goal.returns-in_ok-name-in-Some
returns-in_ok-name-in-Some c =
    let all = c.args.b.now.snapshots in
    let print = c.in-Some.print.now in
    c.find.ensures
    ∙ ap (λ (n : Name). snapshot_at all (record { name = n; fingerprint = print })) c.in_ok-name-in-Some.ensures
    ∙ compared_is all c.args.base.now c.args.name.now print (sym (c.requires c.args.name.now) ∙ sym c.in-Some.ensures.value)
