use Rattle.std.proofs.Common.{◌≡◌, ◌-◌, length}
use Rattle.mesh_model_statement.specs.Faults.{bad}
use Rattle.mesh_model_statement.specs.Kinds.{names_from, complete, kind_word}
use Rattle.mesh_model_statement.proofs.NameSteps.{sought}
use Rattle.mesh_model_statement.proofs.forms.formed_from.Given as goal

abbrev pub invariant-loop : goal.invariant-loop
invariant-loop l =
    sought (bad l.at kind_word) l.kind l.found (names_from (length l.tokens - l.counter) (bad l.at kind_word) l.rest)
    ≡ complete (bad l.at kind_word) l.kind (names_from (length l.tokens) (bad l.at kind_word) l.tokens)
