use Rattle.std.proofs.Common.{take}
use Rattle.mesh_eval_expressions.specs.bound.Meaning.{AreBound, AreBoundWhens}
use Rattle.mesh_eval_expressions.proofs.bound.binding.+binding.Given as goal

abbrev pub invariant-bind_each-loop-e : goal.invariant-bind_each-loop-e
invariant-bind_each-loop-e l = AreBound l.u l.columns l.keys (take l.e-index l.all) l.made

abbrev pub invariant-bind_whens-loop-w : goal.invariant-bind_whens-loop-w
invariant-bind_whens-loop-w l = AreBoundWhens l.u l.columns l.keys (take l.w-index l.whens) l.made
