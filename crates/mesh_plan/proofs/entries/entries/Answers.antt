use Rattle.std.proofs.Common.{length, sym, ap, ◌∙◌}
use Rattle.mesh_plan.proofs.Models.{as_many_objects}
use Rattle.mesh_plan.proofs.entries.entries.Goals as goal

pub entries_of-requires : goal.entries_of-requires
entries_of-requires c =
    let both = as_many_objects c.args.b.now c.args.base.now c.args.p.now.nodes c.in-Ok.categories.of c.in-Ok.names c.in-Ok.ensures.have c.in-Ok.ensures.named in
    ap length c.as_slice.ensures ∙ both.0 ∙ sym both.1 ∙ sym (ap length c.as_slice-in-Ok.ensures)
