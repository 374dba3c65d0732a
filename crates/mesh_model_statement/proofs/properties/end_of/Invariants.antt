use Rattle.std.proofs.Common.{◌≡◌, drop}
use Rattle.mesh_model_statement.specs.Statement.{end_of}
use Rattle.mesh_model_statement.proofs.properties.end_of.Given as goal

abbrev pub invariant-loop-token : goal.invariant-loop-token
invariant-loop-token l = end_of l.end (drop l.token-index l.tokens) ≡ end_of l.before l.tokens
