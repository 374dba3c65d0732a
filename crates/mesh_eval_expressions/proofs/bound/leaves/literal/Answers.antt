use Rattle.mesh_eval_expressions.proofs.bound.leaves.literal.Goals as goal

pub returns : goal.returns
returns c = c.known.ensures c.args.cell.now c.copy.ensures
