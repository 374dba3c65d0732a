use Rattle.std.proofs.Common.{◌≡◌, ◌-◌, length}
use Rattle.mesh_model_statement.specs.Statement.{properties}
use Rattle.mesh_model_statement.proofs.properties.properties.Given as goal

abbrev pub invariant-loop : goal.invariant-loop
invariant-loop l = properties l.file (length l.tokens - l.counter) l.parts l.before l.rest ≡ properties l.file (length l.tokens) l.fn.parts l.fn.before l.tokens
