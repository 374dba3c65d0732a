use Rattle.std.proofs.Common.{◌≡◌, ◌-◌, length}
use Rattle.mesh_model_statement.specs.Faults.{bad}
use Rattle.mesh_model_statement.specs.Kinds.{entries_from, no_entries, kind_word}
use Rattle.mesh_model_statement.proofs.kinds.entries_from.Given as goal

abbrev pub invariant-loop : goal.invariant-loop
invariant-loop l = entries_from l.file (length l.tokens - l.counter) (bad l.at kind_word) l.kind l.entries l.rest ≡ entries_from l.file (length l.tokens) (bad l.at kind_word) l.kind no_entries l.tokens
