use Rattle.std.proofs.Common.{◌≡◌, take, map}
use Rattle.std.specs.List.{fold}
use Rattle.std.specs.declared.option.Option.TheVariants.{None}
use Rattle.mesh_spec_query.specs.Cells.{one_of, chosen, coalesce}
use Rattle.mesh_eval_expressions.specs.bound.Meaning.{bound_value, bound_each, bound_whens, row_alone}
use Rattle.mesh_eval_expressions.specs.Frames.{given_of, picked}
use Rattle.mesh_eval_rows.specs.Plain.{cell_of}
use Rattle.mesh_eval_expressions.proofs.values.+values.Given as goal

abbrev pub invariant-values_of-loop-b : goal.invariant-values_of-loop-b
invariant-values_of-loop-b l = l.made ≡ bound_each (take l.b-index l.all) (given_of l.f)

abbrev pub invariant-first_known-loop-b : goal.invariant-first_known-loop-b
invariant-first_known-loop-b l = l.first ≡ coalesce (bound_each (take l.b-index l.all) (given_of l.f))

abbrev pub invariant-one_equals-loop-b : goal.invariant-one_equals-loop-b
invariant-one_equals-loop-b l = cell_of l.found ≡ one_of l.x (bound_each (take l.b-index l.all) (given_of l.f))

abbrev pub invariant-first_true-loop-w : goal.invariant-first_true-loop-w
invariant-first_true-loop-w l = l.found ≡ fold chosen None (bound_whens (take l.w-index l.whens) (given_of l.f))

abbrev pub invariant-value_rows-loop-at : goal.invariant-value_rows-loop-at
invariant-value_rows-loop-at l = l.made ≡ map (λ row. bound_value l.value (row_alone row)) (picked l.group.rows.now.rows (take l.at-index l.at-items))
