use Rattle.std.proofs.Common.{◌≡◌, take}
use Rattle.std.specs.List.{fold}
use Rattle.std.specs.declared.option.Option.TheVariants.{None}
use Rattle.mesh_spec_query.specs.Cells.{one_of, chosen, coalesce}
use Rattle.mesh_eval_expressions.specs.bound.Meaning.{bound_each, bound_whens}
use Rattle.mesh_eval_rows.specs.Plain.{cell_of}
use Rattle.mesh_eval_expressions.specs.Frames.{given_of}
use Rattle.mesh_eval_expressions.proofs.plain.+plain.Given as goal

abbrev pub invariant-first_known-loop-b : goal.invariant-first_known-loop-b
invariant-first_known-loop-b l = cell_of l.first ≡ coalesce (bound_each (take l.b-index l.all) (given_of l.f))

abbrev pub invariant-one_equals-loop-b : goal.invariant-one_equals-loop-b
invariant-one_equals-loop-b l = cell_of l.found ≡ one_of (cell_of l.x) (bound_each (take l.b-index l.all) (given_of l.f))

abbrev pub invariant-first_true-loop-w : goal.invariant-first_true-loop-w
invariant-first_true-loop-w l = fold chosen None (bound_whens (take l.w-index l.whens) (given_of l.f)) ≡ None
