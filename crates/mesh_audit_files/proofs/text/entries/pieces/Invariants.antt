use Rattle.std.proofs.Common.{◌≡◌, ◌++◌, ◌≤◌, [], drop}
use Rattle.mesh_audit_files.specs.text.Entries.{pieces_from}
use Rattle.mesh_audit_files.proofs.text.entries.pieces.Given as goal

abbrev pub invariant-loop-token : goal.invariant-loop-token
invariant-loop-token l = (l.pieces ++ pieces_from l.front l.depth (drop l.token-index l.tokens) ≡ pieces_from [] 0 l.tokens) × (l.depth ≤ l.token-index)
