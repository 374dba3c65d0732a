use Rattle.std.proofs.Common.{ap, arith, ◌∙◌}
use Rattle.mesh_resolve_selects.specs.outputs.Commons.{place_named}
use Rattle.mesh_resolve_selects.proofs.outputs.Places.{one_more_place}
use Rattle.mesh_resolve_selects.proofs.outputs.commons.Commons.push.Goals as goal

pub invariant_of-self-in-Ok : goal.invariant_of-self-in-Ok
invariant_of-self-in-Ok c =
    one_more_place c.self.inside.places c.insert.new.self c.self.inside.list.items c.push.new.self.items c.args.c c.in_ok-name.name c.len-place.result
    c.self.invariant c.in-Ok.ensures.updates c.in_ok-name.ensures (omega arith) c.in_ok-push.ensures.items (ap (place_named c.args.c.name) c.self.view_is ∙ c.requires.new)
