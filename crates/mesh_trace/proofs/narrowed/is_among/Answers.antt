use Rattle.std.proofs.Common.{◌∙◌}
use Rattle.mesh_trace.proofs.Sets.{turned_any}
use Rattle.mesh_trace.proofs.narrowed.is_among.Goals as goal

pub returns : goal.returns
returns c = c.contains.ensures ∙ turned_any c.args.name.now c.args.wanted.now.keys
