use Rattle.mesh_project.proofs.nodes.Places.{pushed_right, undone_right}
use Rattle.mesh_project.proofs.nodes.earlier.Earlier.push.Goals as goal

pub invariant_of-self-in-Ok : goal.invariant_of-self-in-Ok
invariant_of-self-in-Ok c =
    pushed_right c.self.inside.places c.add_place.new.places c.self.inside.nodes c.push.new.self c.args.node c.in_ok-name.name c.in_ok-place.place
    c.self.invariant c.in_ok-push.ensures.ok c.in_ok-name.ensures c.in_ok-place.ensures c.in-Ok.ensures.ok

pub invariant_of-self-in-Err : goal.invariant_of-self-in-Err
invariant_of-self-in-Err c =
    undone_right c.self.inside.places c.add_place.new.places c.self.inside.nodes c.drop_last.new.nodes
    c.self.invariant (c.drop_last.ensures _ _ c.in_ok-push.ensures.ok) c.in-Err.ensures.err
