use Rattle.mesh_list.proofs.Standing.{ascends-without}
use Rattle.mesh_list.proofs.registers.Register.remove.Goals as goal

pub invariant_of-self : goal.invariant_of-self
invariant_of-self g c = λ is. rw c.remove_in.ensures.rest (ascends-without g.T.Keyed.order g.met.T.Keyed.total g.T.Keyed.key c.args.key.now c.self.inside.list.items (c.self.invariant is))
