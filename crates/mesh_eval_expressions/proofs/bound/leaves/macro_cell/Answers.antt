use Rattle.mesh_spec_query.specs.Macros.{macro_value}
use Rattle.mesh_eval_expressions.proofs.bound.leaves.macro_cell.Goals as goal

pub returns : goal.returns
returns c = c.known.ensures (macro_value c.args.var c.args.u) c.bound.ensures
