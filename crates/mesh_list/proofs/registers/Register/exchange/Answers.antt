use Rattle.mesh_list.proofs.Standing.{ascends-exchanged}
use Rattle.mesh_list.proofs.registers.Register.exchange.Goals as goal

pub invariant_of-self : goal.invariant_of-self
invariant_of-self g c = λ is. rw c.exchange_in.ensures.rest (ascends-exchanged g.T.Keyed.order g.met.T.Keyed.total g.T.Keyed.key c.args.item c.self.inside.list.items (c.self.invariant is))
