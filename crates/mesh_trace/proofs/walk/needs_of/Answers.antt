use Rattle.std.proofs.Common.{◌∙◌}
use Rattle.mesh_trace.proofs.Needs.{same_needs}
use Rattle.mesh_trace.proofs.walk.needs_of.Goals as goal

pub returns : goal.returns
returns c = c.in_ok-made.ensures ∙ same_needs c.args.n.now.own c.in_ok-wanted.wanted.keys c.args.columns c.in_ok-wanted.ensures
