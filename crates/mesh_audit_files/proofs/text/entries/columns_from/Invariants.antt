use Rattle.std.proofs.Common.{◌≡◌, ◌-◌, [], length}
use Rattle.mesh_audit_files.specs.text.Entries.{columns_from}
use Rattle.mesh_audit_files.proofs.text.entries.columns_from.Given as goal

abbrev pub invariant-loop : goal.invariant-loop
invariant-loop l = columns_from (length l.tokens - l.counter) l.columns l.rest ≡ columns_from (length l.tokens) [] l.tokens
