use Rattle.mesh_list.proofs.Ascends.{ascends-placed}
use Rattle.mesh_list.proofs.registers.Register.place.Goals as goal

pub invariant_of-self-2 : goal.invariant_of-self-2
invariant_of-self-2 g c = λ is. rw c.in_ok-place_in.ensures.ok (ascends-placed g.T.Keyed.order g.met.T.Keyed.total g.T.Keyed.key c.args.item c.self.inside.list.items (c.self.invariant is))
