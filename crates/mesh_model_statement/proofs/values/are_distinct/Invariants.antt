use Rattle.std.proofs.Common.{◌≡◌, ◌+◌, ◌≤◌, length}
use Rattle.mesh_model_statement.specs.Values.{are_distinct}
use Rattle.mesh_model_statement.proofs.values.are_distinct.Given as goal

abbrev pub invariant-loop : goal.invariant-loop
invariant-loop l = (are_distinct l.rest ≡ are_distinct l.columns) × (length l.rest + l.counter ≤ length l.columns)
