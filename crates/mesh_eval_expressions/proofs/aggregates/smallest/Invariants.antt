use Rattle.std.proofs.Common.{◌≡◌, take}
use Rattle.std.specs.List.{fold}
use Rattle.mesh_base_values.specs.declared.values.Cell.TheVariants.{Null}
use Rattle.mesh_spec_query.specs.Aggregates.{smaller}
use Rattle.mesh_eval_expressions.proofs.aggregates.smallest.Given as goal

abbrev pub invariant-loop-c : goal.invariant-loop-c
invariant-loop-c l = l.best ≡ fold smaller Null (take l.c-index l.cells)
