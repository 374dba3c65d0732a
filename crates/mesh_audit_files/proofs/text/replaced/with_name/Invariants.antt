use Rattle.std.proofs.Common.{◌≡◌, ◌++◌, drop}
use Rattle.mesh_audit_files.specs.text.Replaced.{with_name}
use Rattle.mesh_audit_files.proofs.text.replaced.with_name.Given as goal

abbrev pub invariant-loop-token : goal.invariant-loop-token
invariant-loop-token l = l.made ++ with_name l.name (drop l.token-index l.tokens) ≡ with_name l.name l.tokens
