use Rattle.std.proofs.Common.{◌≡◌, ◌-◌, length}
use Rattle.mesh_audit_files.specs.text.Statement.{properties}
use Rattle.mesh_audit_files.proofs.text.statement.properties.Given as goal

abbrev pub invariant-loop : goal.invariant-loop
invariant-loop l = properties l.taken (length l.tokens - l.counter) l.head l.before l.rest ≡ properties l.taken (length l.tokens) l.fn.head l.fn.before l.tokens
